-- When two bodies are one. Assumes nothing.
use Prim.Native.Nat.{ℕ}
use mathlib.Core.Path.{◌≡◌, refl, ap}
use Rattle.std.specs.Prelude.{Ok, Err}
use Rattle.cut_fields.specs.declared.Short.{Short}
use Rattle.cut_grammar.specs.declared.Piece.{Piece}
use Rattle.cut_grammar.specs.declared.Whole.{Whole}
use Rattle.cut_grammar.specs.declared.NotCut.TheVariants as not_cut
use Rattle.cut_grammar.specs.Grammar.{Body, whole_body, short_body}

pub whole_same : {x y : Piece} {p q : ℕ} → whole_body x p ≡ whole_body y q → (x ≡ y) × (p ≡ q)
whole_same {x} {y} {p} {q} e =
    let r : ◌≡◌ {A = Whole} (record { piece = x; next = p }) (record { piece = y; next = q }) = cc in
    (ap (λ (w : Whole). w.piece) r, ap (λ (w : Whole). w.next) r)

pub whole_is : (w : Whole) {x : Piece} {p : ℕ} → w.piece ≡ x → w.next ≡ p → ◌≡◌ {A = Body} (Ok w) (whole_body x p)
whole_is w e q = rw (← e, ← q) refl

pub short_is : (e : Short) {p w : ℕ} → e.place ≡ p → e.width ≡ w → ◌≡◌ {A = Body} (Err (not_cut.Short e)) (short_body p w)
short_is e i j = rw (← i, ← j) refl
