-- A count of bits, which is to fit 32 bits, at a place that is there. Assumes nothing.
use Prim.Native.Nat.{ℕ, ◌<◌, ◌≤◌}
use mathlib.Core.Path.{◌≡◌, refl}
use mathlib.Core.List.{List}
use borrow.Author.Tests.{le-leb, lt-leb}
use Rattle.std.specs.Prelude.{Ok, Err}
use Rattle.cut_fields.specs.declared.Short.{Short}
use Rattle.cut_fields.specs.Field.{Cursor}
use Rattle.cut_fields.specs.Run.{each_at}
use Rattle.cut_grammar.specs.declared.GeneralizedData.{GeneralizedData}
use Rattle.cut_grammar.specs.declared.Piece.TheVariants.{Generalized}
use Rattle.cut_grammar.specs.declared.NotCut.TheVariants as not_cut
use Rattle.cut_grammar.specs.Grammar.{read_at, pass_at, whole_at, fitting_at}
use Rattle.cut_grammar.specs.Kinds.{stream19, kind19}
use Rattle.cut_grammar.specs.Steps.{head19, tables19}
use Rattle.cut_fields.proofs.Runs.{each_stuck}
use Prim.Native.Nat.{◌*◌, ◌+◌, ◌^◌}
use native.Mathlib.Nat.{mul-le-mul}
use native.Mathlib.Omega.{arith}

pub bits_fit : (bits : ℕ) (g : GeneralizedData) (tape : List ℕ) (c : Cursor) → bits ≤ 4294967295
    → read_at (stream19 bits g) tape c ≡ whole_at (Generalized g) (each_at tape c g.size 1)
unfolding stream19 read_at pass_at fitting_at
bits_fit bits g tape (Ok p) h = rw (le-leb _ _ h)
bits_fit bits g tape (Err e) h = refl

pub bits_over : (bits : ℕ) (g : GeneralizedData) (tape : List ℕ) (from : ℕ) → 4294967295 < bits
    → read_at (stream19 bits g) tape (Ok from) ≡ Err (not_cut.Overflow from)
unfolding stream19 read_at pass_at fitting_at
bits_over bits g tape from h = rw (lt-leb _ _ h)

pub stream_stuck : (bits : ℕ) (g : GeneralizedData) (tape : List ℕ) (e : Short)
    → read_at (stream19 bits g) tape (Err e) ≡ Err (not_cut.Short e)
unfolding stream19 read_at pass_at fitting_at whole_at
stream_stuck bits g tape e = rw (each_stuck tape e g.size 1) refl

-- the head, then the tables
pub read19 : (full : ℕ) (s : List ℕ) (c : Cursor) → read_at (kind19 full) s c ≡ tables19 full s (head19 s c)
unfolding kind19 read_at pass_at head19 tables19
read19 full s c = refl

-- a product of two numbers of 32 bits, and 7, fit 64 bits
pub bits_product : (n t : ℕ) → n ≤ 4294967295 → t ≤ 4294967295 → n * t + 7 < 2 ^ 64
bits_product n t a b = omega (arith, mul-le-mul a b)
