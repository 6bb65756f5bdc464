-- What the writer of a header's name needs, and how long the name is. Assumes nothing.
use mathlib.Core.Bool.{Bool, true, false}
use mathlib.Core.List.{List}
use Prim.Native.Nat.{ℕ, ◌+◌, ◌-◌, ◌≤◌}
use native.Mathlib.Omega.{arith}
use lib.ListN.{length, length-append, length-take, get_or, take, drop}
use lib.Dec.{eqb}
use Rattle.law_base.specs.Rules.{◌⇒◌, ◌∣◌}
use Rattle.text_out.proofs.Writing.{decimal-length, each-length}
use Rattle.text_codes.specs.Encoding.{encoded}
use Rattle.text_codes.proofs.Codes.{code_length}
use Rattle.text_name.specs.Headers.{type_name, header_name}

-- the ten bytes of a header's name, as a part of the tape
pub ten_bytes : (s : List ℕ) (start : ℕ) → length (take ((start + 12) - (start + 2)) (drop (start + 2) s)) ≤ 10
ten_bytes s start = rw length-take (omega arith)

pub either : (n : ℕ) (t : Bool) (x y : List ℕ) → length x ≤ n → length y ≤ n → length (t ⇒ x ∣ y) ≤ n
either n true x y h k = h
either n false x y h k = k

pub type_length : (b : ℕ) → length (type_name b) ≤ 25
unfolding type_name
type_length b =
    either 25 (eqb b 0) _ _ (omega arith)
    (either 25 (eqb b 1) _ _ (omega arith)
    (either 25 (eqb b 3) _ _ (omega arith) (simp length-append (omega (arith, decimal-length b)))))

pub header_length : (s : List ℕ) (start : ℕ) → length (header_name s start) ≤ 117
unfolding header_name
header_length s start =
    let ten : length (take 10 (drop (start + 2) s)) ≤ 10 = rw length-take (omega arith) in
    simp length-append
    (omega (arith, type_length (get_or s (start + 1) 0), each-length encoded 9 code_length (take 10 (drop (start + 2) s)), ten))
