-- FIELDS THAT WERE THERE, as a whole 19 shows them: their places, its head, its end. Assumes nothing.
use Prim.Native.Nat.{ℕ, ◌+◌, ◌<◌, ◌≤◌}
use native.Mathlib.Omega.{arith}
use mathlib.Core.Path.{◌≡◌, refl, sym, ap, ◌∙◌}
use mathlib.Core.Bool.{Bool, true, false}
use mathlib.Core.List.{List}
use mathlib.Core.Logic.{⊎_elim}
use lib.ListN.{length}
use lib.Dec.{leb}
use Rattle.std.specs.Prelude.{Ok, Err}
use Rattle.law_base.specs.Rules.{◌⇒◌, ◌∣◌}
use Rattle.law_base.proofs.Numbers.{lt_or_ge}
use Rattle.cut_fields.specs.declared.Short.{Short}
use Rattle.cut_fields.specs.Field.{Cursor, came_short, number_at, field_at, place_of}
use Rattle.cut_fields.proofs.Runs.{field_there, field_short}
use Rattle.cut_grammar.specs.declared.Piece.{Piece}
use Rattle.cut_grammar.specs.declared.NotCut.TheVariants as not_cut
use Rattle.cut_grammar.specs.Grammar.{whole_body, whole_at, fitting_at}
use Rattle.cut_grammar.proofs.Bodies.{whole_same}
use Rattle.cut_grammar.specs.Steps.{head19}

-- a field that was there
record Field (s : List ℕ) (c : Cursor) (w q : ℕ) : Type 0 where
  pub began : c ≡ Ok (place_of c)
  pub moved : q ≡ place_of c + w
  pub told : (field_at s c w).value ≡ number_at s (place_of c) w

short-stays : (s : List ℕ) (x : Short) (w : ℕ) {q : ℕ} → (field_at s (Err x) w).cursor ≡ Ok q → ⊥
unfolding field_at
short-stays s x w e = let z : ◌≡◌ {A = ℕ} 0 1 = cc in omega arith

field_stood : (s : List ℕ) (c : Cursor) (w : ℕ) {q : ℕ} → (field_at s c w).cursor ≡ Ok q → Field s c w q
unfolding place_of
field_stood s (Ok p) w {q} e =
    ⊎_elim
    (λ (t : length s < p + w). let z = sym (ap (λ r. r.cursor) (field_short s w p t)) ∙ e in absurd (stuck z))
    (λ (t : p + w ≤ length s).
    let z : ◌≡◌ {A = Cursor} (Ok (p + w)) (Ok q) = sym (ap (λ r. r.cursor) (field_there s w p t)) ∙ e in
    record { began = refl; moved = cc; told = ap (λ r. r.value) (field_there s w p t) })
    (lt_or_ge (length s) (p + w))
  where
    stuck : {a b : ℕ} → ◌≡◌ {A = Cursor} (came_short a b) (Ok q) → ⊥
    stuck i = let z : ◌≡◌ {A = ℕ} 0 1 = cc in omega arith
field_stood s (Err x) w e = absurd (short-stays s x w e)

-- where a 19 has its length, and where its tables begin
pub record Headed (s : List ℕ) (p q : ℕ) : Type 0 where
  pub length : (field_at s (Ok p) 4).cursor ≡ Ok (p + 4)
  pub tables : q ≡ p + 18

pub head_placed : (s : List ℕ) (p : ℕ) {q : ℕ} → (head19 s (Ok p)).cursor ≡ Ok q → Headed s p q
unfolding head19 place_of
head_placed s p {q} e =
    let length = field_at s (Ok p) 4 in
    let pause = field_at s length.cursor 2 in
    let totp = field_at s pause.cursor 4 in
    let npp = field_at s totp.cursor 1 in
    let asp = field_at s npp.cursor 1 in
    let totd = field_at s asp.cursor 4 in
    let npd = field_at s totd.cursor 1 in
    let f8 = field_stood s npd.cursor 1 e in
    let f7 = field_stood s totd.cursor 1 f8.began in
    let f6 = field_stood s asp.cursor 4 f7.began in
    let f5 = field_stood s npp.cursor 1 f6.began in
    let f4 = field_stood s totp.cursor 1 f5.began in
    let f3 = field_stood s pause.cursor 4 f4.began in
    let f2 = field_stood s length.cursor 2 f3.began in
    let f1 = field_stood s (Ok p) 4 f2.began in
    let m1 : place_of length.cursor ≡ p + 4 = f1.moved in
    let m2 = f2.moved in
    let m3 = f3.moved in
    let m4 = f4.moved in
    let m5 = f5.moved in
    let m6 = f6.moved in
    let m7 = f7.moved in
    let m8 = f8.moved in
    record { length = f2.began ∙ ap Ok m1; tables = omega arith }

-- a whole piece behind its bits: any other piece would be whole there too
pub record FittedPiece (x y : Piece) (bits : ℕ) (c d : Cursor) (next : ℕ) : Type 0 where
  pub same : x ≡ y
  pub stood : d ≡ Ok next
  pub any : (z : Piece) → fitting_at bits c (whole_at z d) ≡ whole_body z next

whole_fitted : (x : Piece) (d : Cursor) {y : Piece} {next : ℕ} → whole_at x d ≡ whole_body y next → (x ≡ y) × (d ≡ Ok next)
unfolding whole_at
whole_fitted x (Ok q) {next = next} e = let i = whole_same e in (i.0, ap Ok i.1)
whole_fitted x (Err q) e = absurd (let z : ◌≡◌ {A = ℕ} 0 1 = cc in omega arith)

whole_any : (z : Piece) {d : Cursor} {next : ℕ} → d ≡ Ok next → whole_at z d ≡ whole_body z next
unfolding whole_at
whole_any z e = ap (whole_at z) e

pub fitted : (x y : Piece) (bits : ℕ) (c d : Cursor) (next : ℕ) → fitting_at bits c (whole_at x d) ≡ whole_body y next
    → FittedPiece x y bits c d next
unfolding fitting_at
fitted x y bits (Ok p) d next e = by_cases (leb bits 4294967295) refl e
  where
    by_cases : (t : Bool) → leb bits 4294967295 ≡ t → (t ⇒ whole_at x d ∣ Err (not_cut.Overflow p)) ≡ whole_body y next
        → FittedPiece x y bits (Ok p) d next
    by_cases true b q = let r = whole_fitted x d q in record { same = r.0; stood = r.1; any = λ z. rw b (whole_any z r.1) }
    by_cases false b q = absurd (let z : ◌≡◌ {A = ℕ} 0 1 = cc in omega arith)
fitted x y bits (Err p) d next e =
    let r = whole_fitted x d e in
    record { same = r.0; stood = r.1; any = λ z. whole_any z r.1 }
