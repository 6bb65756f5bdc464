-- A stop of a 48K is a 2A, whose length of four bytes is there, and no other kind gives one. Assumes nothing.
use Prim.Native.Nat.{ℕ, ◌+◌, ◌≤◌, ◌<◌}
use mathlib.Core.Path.{◌≡◌, refl, sym, ◌∙◌}
use mathlib.Core.Bool.{Bool, true}
use mathlib.Core.List.{List}
use mathlib.Core.Logic.{⊎_elim}
use native.Mathlib.Omega.{arith}
use lib.ListN.{length, get_or}
use Rattle.law_base.proofs.Numbers.{lt_or_ge}
use Rattle.std.specs.Prelude.{Ok}
use Rattle.cut_grammar.specs.Grammar.{Body, whole_body, short_body}
use Rattle.cut_fields.specs.Field.{number_at}
use Rattle.cut_fields.proofs.Runs.{field_there, field_short}
use Rattle.cut_grammar.specs.declared.Piece.{Piece}
use Rattle.cut_grammar.specs.declared.Piece.TheVariants as piece
use Rattle.cut_grammar.specs.declared.Taken.TheVariants as taken
use Rattle.cut_grammar.specs.Grammar.{Layout, whole_at, read_at}
use Rattle.cut_grammar.specs.Kinds.{kind13, stream19, kind19, kind_2a, kinds, kind_of}
use Rattle.cut_grammar.specs.Cut.{taken_as, cut_at}
use Rattle.cut_grammar.proofs.Bodies.{whole_same}
use Rattle.cut_grammar.proofs.Cutting.{cut_there, cut_inside, cut_kind}
use Rattle.cut_grammar.proofs.Others.{Other, other_none, unnamed}
use Rattle.cut_grammar.proofs.Sorts.{sort_of, is_stop48, is_listed, RowSort, pulses, general, stop48, other, row_of}

-- a stop of the length that the four bytes at p say
record Stopped (kind : ℕ) (s : List ℕ) (p n next : ℕ) : Type 0 where
  sort : kind ≡ 0x2A
  says : n ≡ number_at s p 4
  end : next ≡ p + 4
  inside : p + 4 ≤ length s

abbrev Stops : ℕ → List ℕ → ℕ → Body → Type 0
Stops kind s p b = (n next : ℕ) → b ≡ whole_body (piece.Stop48 n) next → Stopped kind s p n next

other_stops : (is : Piece → Bool) → ((n : ℕ) → is (piece.Stop48 n) ≡ true) → (l : Layout) → Other is l
    → (kind : ℕ) (s : List ℕ) (p : ℕ) → Stops kind s p (read_at l s (Ok p))
other_stops is h l o kind s p n next e = absurd (other_none is l o s (Ok p) (piece.Stop48 n) next (h n) e)

-- a 2A whose length is there, and one whose length is not
whole_2a : (s : List ℕ) (p : ℕ) → p + 4 ≤ length s → read_at kind_2a s (Ok p) ≡ whole_body (piece.Stop48 (number_at s p 4)) (p + 4)
unfolding read_at kind_2a whole_at
whole_2a s p h = rw (field_there s 4 p h)

short_2a : (s : List ℕ) (p : ℕ) → length s < p + 4 → read_at kind_2a s (Ok p) ≡ short_body p 4
unfolding read_at kind_2a whole_at
short_2a s p h = rw (field_short s 4 p h)

stops_2a : (s : List ℕ) (p : ℕ) → Stops 0x2A s p (read_at kind_2a s (Ok p))
stops_2a s p n next e =
    ⊎_elim
    (λ (h : length s < p + 4). absurd (not-whole (sym (short_2a s p h) ∙ e)))
    (λ (h : p + 4 ≤ length s). let q = whole_same (sym (whole_2a s p h) ∙ e) in
    let t = q.0 in
    let i : number_at s p 4 ≡ n = cc in
    let j : p + 4 ≡ next = q.1 in
    record { sort = refl; says = sym i; end = sym j; inside = h })
    (lt_or_ge (length s) (p + 4))
  where
    not-whole : short_body p 4 ≡ whole_body (piece.Stop48 n) next → ⊥
    not-whole q = let z : ◌≡◌ {A = ℕ} 0 1 = cc in omega arith

-- of all rows, that of 2A alone gives a stop of a 48K
rows-stop : {full kind : ℕ} {l : Layout} → RowSort full kind l → (s : List ℕ) (p : ℕ) → Stops kind s p (read_at l s (Ok p))
unfolding sort_of kind13 kind19 stream19
rows-stop pulses s p = other_stops is_stop48 (λ _. refl) kind13 (λ _ _. refl) _ s p
rows-stop {full} general s p = other_stops is_stop48 (λ _. refl) (kind19 full) (λ _ _ _ _ _ _ _ _ _ _ _ _. refl) _ s p
rows-stop stop48 s p = stops_2a s p
rows-stop {kind = kind} (other l o) s p = other_stops is_listed (λ _. refl) l o kind s p

-- A STOP OF A 48K IS A 2A: it has the length that its four bytes say, ends behind them and stands inside the tape
pub cut_stop : (s : List ℕ) (at full : ℕ) {k a next n : ℕ} → cut_at s at full ≡ taken.Whole k a next (piece.Stop48 n)
    → (k ≡ 0x2A) × ((n ≡ number_at s (at + 1) 4) × ((next ≡ at + 5) × (at + 5 ≤ length s)))
cut_stop s at full {next = next} {n} e =
    let x = rows-stop (row_of full (get_or s at 0)) s (at + 1) n next
    (unnamed (get_or s at 0) at _ (sym (cut_there s at full (cut_inside s at full e)) ∙ e)) in
    (cut_kind s at full e ∙ x.sort, (x.says, (omega (arith, x.end), omega (arith, x.inside))))

-- and every 2A whose four bytes are there is one
pub stop_cut : (s : List ℕ) (at full : ℕ) → get_or s at 0 ≡ 0x2A → at + 5 ≤ length s
    → cut_at s at full ≡ taken.Whole 0x2A at (at + 5) (piece.Stop48 (number_at s (at + 1) 4))
unfolding taken_as kind_of kinds
stop_cut s at full q h =
    let i : at + 1 + 4 ≡ at + 5 = omega arith in
    cut_there s at full (omega arith) ∙ rw (q, whole_2a s (at + 1) (omega arith), i)
