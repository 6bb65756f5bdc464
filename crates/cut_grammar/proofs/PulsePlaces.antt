-- A whole 13 ends where its pulses do, inside the tape, and no other kind gives one. Assumes nothing.
use Prim.Native.Nat.{ℕ, ◌+◌, ◌*◌, ◌≤◌}
use mathlib.Core.Path.{◌≡◌, refl, sym, ◌∙◌}
use mathlib.Core.Bool.{Bool, true}
use mathlib.Core.List.{List}
use native.Mathlib.Omega.{arith}
use lib.ListN.{length, get_or}
use Rattle.std.specs.Prelude.{Ok, Err}
use Rattle.cut_fields.specs.Field.{Cursor}
use Rattle.cut_grammar.specs.Grammar.{Body, whole_body}
use Rattle.cut_fields.specs.Field.{field_at, place_of}
use Rattle.cut_fields.specs.Run.{each_at}
use Rattle.cut_fields.proofs.Runs.{each_stood}
use Rattle.cut_grammar.specs.declared.Piece.{Piece}
use Rattle.cut_grammar.specs.declared.Piece.TheVariants as piece
use Rattle.cut_grammar.specs.declared.Taken.TheVariants as taken
use Rattle.cut_grammar.specs.Grammar.{Layout, pass_at, whole_at, read_at}
use Rattle.cut_grammar.specs.Kinds.{kind13, stream19, kind19, kind_2a}
use Rattle.cut_grammar.specs.Cut.{cut_at}
use Rattle.cut_grammar.proofs.Bodies.{whole_same}
use Rattle.cut_grammar.proofs.Cutting.{cut_there, cut_inside, cut_forward}
use Rattle.cut_grammar.proofs.Others.{Other, other_none, unnamed}
use Rattle.cut_grammar.proofs.Sorts.{sort_of, is_pulses, is_listed, RowSort, pulses, general, stop48, other, row_of}

-- pulses that end at `next`
abbrev Ended : Body → Type 0
Ended b = (count from next : ℕ) → b ≡ whole_body (piece.Pulses count from) next → next ≡ from + count * 2

other_ended : (is : Piece → Bool) → ((count from : ℕ) → is (piece.Pulses count from) ≡ true) → (l : Layout) → Other is l
    → (s : List ℕ) (c : Cursor) → Ended (read_at l s c)
other_ended is h l o s c count from next e = absurd (other_none is l o s c (piece.Pulses count from) next (h count from) e)

whole-ended : (s : List ℕ) (n : ℕ) (c d : Cursor) → each_at s c n 2 ≡ d → Ended (whole_at (piece.Pulses n (place_of c)) d)
unfolding whole_at
whole-ended s n c (Ok q) f count from next e =
    let r = whole_same e in
    let t = r.0 in
    let i : q ≡ next = r.1 in
    let j : n ≡ count = cc in
    let k : place_of c ≡ from = cc in
    let m = (each_stood s n 2 c f).moved in
    omega arith
whole-ended s n c (Err x) f count from next e = absurd (let z : ◌≡◌ {A = ℕ} 0 1 = cc in omega arith)

pulses-ended : (s : List ℕ) (c : Cursor) → Ended (read_at kind13 s c)
unfolding read_at kind13 pass_at
pulses-ended s c = whole-ended s (field_at s c 1).value (field_at s c 1).cursor _ refl

-- of all rows, that of 13 alone gives pulses
rows-ended : {full kind : ℕ} {l : Layout} → RowSort full kind l → (s : List ℕ) (c : Cursor) → Ended (read_at l s c)
unfolding sort_of kind19 stream19 kind_2a
rows-ended pulses s c = pulses-ended s c
rows-ended {full} general s c = other_ended is_pulses (λ _ _. refl) (kind19 full) (λ _ _ _ _ _ _ _ _ _ _ _ _. refl) s c
rows-ended stop48 s c = other_ended is_pulses (λ _ _. refl) kind_2a (λ _. refl) s c
rows-ended (other l o) s c = other_ended is_listed (λ _ _. refl) l o s c

-- a whole 13 ends where its pulses do, inside the tape
pub cut_pulses : (s : List ℕ) (at full : ℕ) {k a next count from : ℕ}
    → cut_at s at full ≡ taken.Whole k a next (piece.Pulses count from) → from + count * 2 ≤ length s
cut_pulses s at full {next = next} {count} {from} e =
    let m = rows-ended (row_of full (get_or s at 0)) s (Ok (at + 1)) count from next
    (unnamed (get_or s at 0) at _ (sym (cut_there s at full (cut_inside s at full e)) ∙ e)) in
    omega (arith, m, (cut_forward s at full e).1)
