-- THE CURRENT LEVEL BEHIND ROWS OF BEGIN 0 is the level before them, turned as often as their gathered turns are odd. Assumes nothing.
use Prim.Native.Nat.{ℕ, zero, suc, ◌+◌, ◌-◌, ◌%◌, ◌≤◌}
use native.Mathlib.Omega.{arith}
use native.Mathlib.Decide.{ℕ_discrete}
use borrow.Author.Tests.{eq-eqb, ne_eqb}
use mathlib.Core.Path.{◌≡◌, refl, sym, ap, subst, ◌∙◌}
use mathlib.Core.Bool.{Bool, true, false, not, not-not}
use mathlib.Core.List.{List}
use lib.Bits.{bit_and, bit_xor, and_mask, and_mod, and_zero_r, xor_add_and}
use lib.Dec.{eqb}
use Rattle.law_base.specs.Rules.{◌⇒◌, ◌∣◌}
use Rattle.law_pulses.specs.Play.{Level}
use Rattle.rows.specs.declared.Tone.{Tone}
use Rattle.rows.specs.declared.Block.{Block}
use Rattle.rows_well.specs.Seen.{seen_from, seen_of, steady_seen}
use Rattle.rows_well.proofs.Gathered.{steady_more}
use Rattle.play_levels.specs.declared.Line.{Line}
use Rattle.play_levels.specs.Voiced.{behind}
use Rattle.play_levels.specs.Closed.{times_of, turned, flipped, first_level, line_before, line_after}
use Rattle.play_levels.proofs.Tone.{turned_next}
use Rattle.play_entries.specs.Entries.{tone_at, line_at}

-- odd, as the code tests it
abbrev pub odd : ℕ → Bool
odd n = eqb (n % 2) 1

-- a tone of this count and this wave
abbrev toned : ℕ → ℕ → ℕ → ℕ → Tone
toned num len1 len2 wave = record { num = num; len1 = len1; len2 = len2; wave = wave }

-- of either line the same level
either : (b : Bool) (x y : Line) (v : Level) → x.current ≡ v → y.current ≡ v → (b ⇒ x ∣ y).current ≡ v
either true x y v p q = p
either false x y v p q = q

-- turned n times is turned where n is odd
turned_odd : (n : ℕ) (v : Level) → turned n v ≡ flipped (odd n) v
unfolding turned
turned_odd n v =
    elim (ℕ_discrete (n % 2) 0) [
      | yes z ↦ rw (eq-eqb (n % 2) 0 z, z)
      | no z ↦ let o : n % 2 ≡ 1 = omega arith in rw (ne_eqb (n % 2) 0 z, o)
    ]

-- behind some repetitions of one pulse
turned_some : (n : ℕ) (v : Level) → (n ≡ 0 → ⊥) → not (turned (n - 1) v) ≡ turned n v
turned_some n v z = let e : n - 1 + 1 ≡ n = omega arith in sym (turned_next (n - 1) v) ∙ ap (λ (k : ℕ). turned k v) e

module _ (l : Line) (m n : ℕ) where
  -- no pulse, two pulses, one pulse a repetition
  none-turns : (num : ℕ) → (line_after (toned num m n 0) l).current ≡ flipped (odd (bit_and num 0)) l.current
  unfolding line_after line_before times_of
  none-turns num = rw (and_zero_r num)

  two_turns : (num : ℕ) → (line_after (toned num m n 2) l).current ≡ flipped (odd (bit_and num 2)) l.current
  unfolding line_after line_before times_of first_level
  two_turns num =
      let e : bit_and num 2 % 2 ≡ 0 = and_mod num 2 1 ∙ and_zero_r (num % 2) in
      rw e (either (eqb num 0) l (behind (not l.current)) l.current refl (not-not l.current))

  one_turns : (num : ℕ) → (line_after (toned num m n 1) l).current ≡ flipped (odd (bit_and num 1)) l.current
  unfolding line_after line_before times_of first_level
  one_turns num =
      let e : bit_and num 1 % 2 ≡ num % 2 = ap (λ (k : ℕ). k % 2) (and_mask num 1) ∙ omega arith in
      rw e
      (elim (ℕ_discrete num 0) [
        | yes z ↦ rw z
        | no z ↦ rw (ne_eqb num 0 z) (turned_some num l.current z ∙ turned_odd num l.current)
      ])

-- a row of begin 0
row_turns : (t : Tone) (l : Line) → t.wave ≤ 2 → (line_after t l).current ≡ flipped (odd (bit_and t.num t.wave)) l.current
row_turns t l h =
    elim (ℕ_discrete t.wave 0) [
      | yes z ↦ by_wave 0 z (none-turns l t.len1 t.len2 t.num)
      | no z ↦
          elim (ℕ_discrete t.wave 1) [
            | yes o ↦ by_wave 1 o (one_turns l t.len1 t.len2 t.num)
            | no o ↦ by_wave 2 (omega arith) (two_turns l t.len1 t.len2 t.num)
          ]
    ]
  where
    by_wave : (w : ℕ) → t.wave ≡ w
        → (line_after (toned t.num t.len1 t.len2 w) l).current ≡ flipped (odd (bit_and t.num w)) l.current
        → (line_after t l).current ≡ flipped (odd (bit_and t.num t.wave)) l.current
    by_wave w e p =
        subst (λ (x : ℕ). (line_after (toned t.num t.len1 t.len2 x) l).current ≡ flipped (odd (bit_and t.num x)) l.current)
        (sym e) p

-- turns add up
odd_xor : (a b : ℕ) (v : Level) → flipped (odd b) (flipped (odd a) v) ≡ flipped (odd (bit_xor a b)) v
odd_xor a b v =
    let e : bit_xor a b % 2 ≡ (a + b) % 2 = omega (arith, xor_add_and a b) in
    elim (ℕ_discrete (b % 2) 0) [
      | yes z ↦ let s : (a + b) % 2 ≡ a % 2 = omega arith in rw (e, s, z)
      | no z ↦
          let o : b % 2 ≡ 1 = omega arith in
          elim (ℕ_discrete (a % 2) 0) [
            | yes y ↦ let s : (a + b) % 2 ≡ 1 = omega arith in rw (e, s, o, y)
            | no y ↦ let p : a % 2 ≡ 1 = omega arith in let s : (a + b) % 2 ≡ 0 = omega arith in rw (e, s, o, p) (not-not v)
          ]
    ]

-- THE CURRENT LEVEL behind the first n tone rows
pub current_turned : (tones : List ℕ) (r : Block) (n : ℕ) → steady_seen (seen_of tones r.tone n) ≡ true
    → (line_at tones r n).current ≡ flipped (odd (seen_of tones r.tone n).turns) (eqb r.level 1)
unfolding seen_from line_at
current_turned tones r zero e = refl
current_turned tones r (suc n) e =
    let t = tone_at tones r n in
    let s = seen_of tones r.tone n in
    let q = steady_more t s e in
    row_turns t (line_at tones r n) q.1
    ∙ ap (flipped (odd (bit_and t.num t.wave))) (current_turned tones r n q.0)
    ∙ odd_xor s.turns (bit_and t.num t.wave) (eqb r.level 1)
