-- A 19 THAT ENDS WHERE ITS LENGTH SAYS is read alike inside its length. Assumes nothing.
use Prim.Native.Nat.{ℕ, ◌+◌, ◌≤◌}
use native.Mathlib.Omega.{arith}
use mathlib.Core.Path.{◌≡◌, sym, ap, ◌∙◌}
use mathlib.Core.List.{List}
use lib.ListN.{length}
use Rattle.std.specs.Prelude.{Ok}
use Rattle.cut_fields.specs.Field.{field_at}
use Rattle.cut_fields.proofs.Runs.{field_there}
use Rattle.cut_grammar.specs.declared.Piece.{Piece}
use Rattle.cut_grammar.specs.declared.Whole.{Whole}
use Rattle.cut_grammar.specs.Grammar.{Body, whole_body, Layout, within, sealed, enclosed, read_at}
use Rattle.cut_grammar.specs.Kinds.{body19, kind19}
use Rattle.cut_grammar.specs.Steps.{head19}
use Rattle.cut_grammar.specs.Ends.{Ends, ends, none, short, wide, Own}
use Rattle.cut_grammar.proofs.Layouts.{own}
use Rattle.law_tzx.specs.Format.{format_full}
use Rattle.law_tzx.specs.Cut.{layout19}

-- a piece that ends at a place ends at no other
ends_at : {a b next : ℕ} {piece : Piece} {x : Body} → Ends a b x → x ≡ whole_body piece next → a ≤ next
ends_at {next = next} {piece = piece} (ends {x = y} h t) e =
    let r : ◌≡◌ {A = Whole} y (record { piece = piece; next = next }) = cc in
    let i : y.next ≡ next = ap (λ (w : Whole). w.next) r in
    omega arith
ends_at none e = absurd (let z : ◌≡◌ {A = ℕ} 0 1 = cc in omega arith)
ends_at short e = absurd (let z : ◌≡◌ {A = ℕ} 0 1 = cc in omega arith)
ends_at wide e = absurd (let z : ◌≡◌ {A = ℕ} 0 1 = cc in omega arith)

-- from its own bytes alone
own_same : {l k next : ℕ} {piece : Piece} {x y : Body} → Own l k x y → x ≡ whole_body piece next → next ≤ k
    → y ≡ whole_body piece next
own_same Own.same e h = e
own_same (Own.beyond b) e h = let a = ends_at b e in absurd (omega arith)

-- a body that takes in all of its layout, and no more
within_same : (inner : Layout) (s : List ℕ) (q n : ℕ) {piece : Piece} → q + n ≤ length s
    → read_at inner s (Ok q) ≡ whole_body piece (q + n)
    → read_at (within n inner) s (Ok q) ≡ whole_body piece (q + n)
unfolding read_at enclosed sealed
within_same inner s q n {piece} i e =
    rw (field_there s n q i) (ap (sealed (q + n)) (own_same (own inner s (q + n) q (omega arith)) e (omega arith)))

pub within-length : (s : List ℕ) (p : ℕ) {next : ℕ} {piece : Piece} → next ≤ length s
    → (field_at s (Ok p) 4).cursor ≡ Ok (p + 4)
    → p + 4 + (head19 s (Ok p)).head.length ≡ next → read_at (kind19 format_full) s (Ok p) ≡ whole_body piece next
    → read_at layout19 s (Ok p) ≡ whole_body piece next
unfolding read_at kind19 head19
within-length s p {next} {piece} i f n e =
    let l = (field_at s (Ok p) 4).value in
    let q : read_at (body19 format_full l) s (Ok (p + 4)) ≡ whole_body piece (p + 4 + l) =
    ap (read_at (body19 format_full l) s) (sym f) ∙ e ∙ ap (whole_body piece) (sym n) in
    ap (read_at (within l (body19 format_full l)) s) f ∙ within_same (body19 format_full l) s (p + 4) l (omega arith) q
    ∙ ap (whole_body piece) n
