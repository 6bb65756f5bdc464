-- Laws of the steps for those who chain them. Assumes nothing.
use Prim.Native.Nat.{ℕ, ◌+◌, ◌<◌}
use native.Mathlib.Omega.{arith}
use mathlib.Core.Path.{◌≡◌, refl, sym, ◌∙◌}
use mathlib.Core.Bool.{Bool, true, false}
use mathlib.Core.List.{List, ◌++◌, append_assoc}
use lib.ListN.{length, length-append, length-replicate}
use lib.Dec.{leb}
use Rattle.std.specs.Prelude.{Option, None, Result, Ok, Err, IsErrAnd}
use Rattle.std.proofs.lemmas.Result.{err_from_is_err_and}
use borrow.Author.Tests.{lt-leb, leb-false}
use Rattle.refusals.specs.Refusals.{tones_full}
use Rattle.law_base.specs.Rules.{◌⇒◌, ◌∣◌}
use Rattle.rows.specs.declared.Tone.{Tone}
use Rattle.rows.specs.Table.{zeros}
use Rattle.rows.specs.Rows.{block, tone}
use Rattle.rows.proofs.Tables.{over_none}
use Rattle.load_state.specs.declared.State.{State}
use Rattle.load_state.specs.declared.Pending.{Pending}
use Rattle.load_state.specs.declared.Pending.TheVariants.{Nothing}
use Rattle.load_state.specs.declared.Body.{Body}
use Rattle.load_state.specs.declared.Halt.{Halt}
use Rattle.load_state.specs.declared.Halt.TheVariants.{Refusal}
use Rattle.load_state.specs.Parser.{Parsed, with_tones, with_pending, with_body, empty, Out, on, no, ◌⟫◌, add_tones}
use Rattle.load_state.specs.Holds.{Holds, GivesOut, goes, refuses}

pub chain_assoc : (o : Out) (f g : Parsed → Out) → o ⟫ f ⟫ g ≡ o ⟫ (λ t. f t ⟫ g)
unfolding ◌⟫◌
chain_assoc (on t) f g = refl
chain_assoc (no k) f g = refl

-- tone rows may be added part by part
pub tones_append : (m : ℕ) (xs ys : List Tone) (t : Parsed) → add_tones m (xs ++ ys) t ≡ add_tones m xs t ⟫ add_tones m ys
unfolding add_tones ◌⟫◌
tones_append m xs ys t = by_cases (leb (length t.tones + length xs) m) refl
  where
    by_cases : (b : Bool) → leb (length t.tones + length xs) m ≡ b
        → add_tones m (xs ++ ys) t ≡ (b ⇒ on (with_tones xs t) ∣ no (Refusal tones_full)) ⟫ add_tones m ys
    by_cases true e =
        let n : length (t.tones ++ xs) + length ys ≡ length t.tones + length (xs ++ ys) =
        rw (length-append, length-append) (omega arith) in
        rw (n, append_assoc)
    by_cases false e =
        let n : m < length t.tones + length (xs ++ ys) =
        rw length-append (omega (arith, leb-false (length t.tones + length xs) m e)) in
        rw (lt-leb _ _ n)

-- a state with another pending name, and with another loop
abbrev pub now_pending : Pending → State → State
now_pending p s = record { blocks = s.blocks; tones = s.tones; pending = p; body = s.body }

abbrev pub with_loop : Option Body → State → State
with_loop l s = record { blocks = s.blocks; tones = s.tones; pending = s.pending; body = l }

-- a held tape with another pending name, and with another loop
module _ {B N : ℕ} {s : State} {bt tt : List ℕ} {t : Parsed} (h : Holds B N s bt tt t) where
  pub holds_name : {p q : Pending} → p ≡ q → Holds B N (now_pending p s) bt tt (with_pending q t)
  holds_name e =
      record {
        nb = h.nb;
        nt = h.nt;
        pends = e;
        loops = h.loops;
        room_b = h.room_b;
        room_t = h.room_t;
        len_b = h.len_b;
        len_t = h.len_t;
        is_b = h.is_b;
        is_t = h.is_t;
      }

  pub holds_loop : {l m : Option Body} → l ≡ m → Holds B N (with_loop l s) bt tt (with_body m t)
  holds_loop e =
      record {
        nb = h.nb;
        nt = h.nt;
        pends = h.pends;
        loops = e;
        room_b = h.room_b;
        room_t = h.room_t;
        len_b = h.len_b;
        len_t = h.len_t;
        is_b = h.is_b;
        is_t = h.is_t;
      }

-- what a `?` returns where it hands a refusal on
abbrev pub Hands : Halt → Result State Halt → Type 0
Hands k y = IsErrAnd y (λ j. j ≡ k)

-- what an answer that went on, or that refused, says of the definition's
module _ {B N : ℕ} {bt tt : List ℕ} where
  pub went_on : {x : Result State Halt} {s : State} {o : Out} → GivesOut B N x bt tt o → x ≡ Ok s
      → (t : Parsed) × (o ≡ on t) × Holds B N s bt tt t
  went_on {s = s} (goes {s = s₁} {t = t} h) e = let q : s₁ ≡ s = cc in (t, refl, rw q at h)
  went_on (refuses) e = cc

  pub was_refused : {x : Result State Halt} {k : Halt} {o : Out} → GivesOut B N x bt tt o → x ≡ Err k → o ≡ no k
  was_refused (goes h) e = cc
  was_refused (refuses) e = cc

  -- two calls in turn: where the first went on, what the second gives from there is what both give; where it refused, so do both
  pub then_on : {x y : Result State Halt} {s : State} {bt' tt' : List ℕ} {o : Out} {f : Parsed → Out} → GivesOut B N x bt tt o
      → x ≡ Ok s → ((t : Parsed) → Holds B N s bt tt t → GivesOut B N y bt' tt' (f t)) → GivesOut B N y bt' tt' (o ⟫ f)
  unfolding ◌⟫◌
  then_on e q k = let w = went_on e q in rw w.1 (k w.0 w.2)

  pub then_no : {x y : Result State Halt} {k : Halt} {bt' tt' : List ℕ} {o : Out} (f : Parsed → Out) → GivesOut B N x bt tt o
      → x ≡ Err k → Hands k y → GivesOut B N y bt' tt' (o ⟫ f)
  unfolding ◌⟫◌
  then_no {y = y} f e q d = let p = err_from_is_err_and y d in rw (p.1, p.2, was_refused e q) refuses

-- what a loop keeps: a tape that the state holds, known to be P, from which what is left gives what the whole gives
pub record Going (P : Parsed → Type 0) (B N : ℕ) (s : State) (bt tt : List ℕ) (rest : Parsed → Out) (whole : Out) : Type 0 where
  pub at : Parsed
  pub known : P at
  pub holds : Holds B N s bt tt at
  pub same : rest at ≡ whole

module _ {P : Parsed → Type 0} {B N : ℕ} {s : State} {bt tt : List ℕ} {rest : Parsed → Out} where
  pub going_starts : {t : Parsed} → P t → Holds B N s bt tt t → Going P B N s bt tt rest (rest t)
  going_starts {t = t} p h = record { at = t; known = p; holds = h; same = refl }

  module _ {whole : Out} (g : Going P B N s bt tt rest whole) where
    -- nothing is left
    pub going_ends : rest g.at ≡ on g.at → GivesOut B N (Ok s) bt tt whole
    going_ends e = rw (← g.same, e) (goes g.holds)

    -- one turn of the step f
    module _ {x : Result State Halt} {bt' tt' : List ℕ} (f next : Parsed → Out) (split : rest g.at ≡ f g.at ⟫ next)
        (e : GivesOut B N x bt' tt' (f g.at)) where
      pub going_no : {y : Result State Halt} {k : Halt} → x ≡ Err k → Hands k y → GivesOut B N y bt' tt' whole
      going_no q d = rw (← g.same, split) (then_no next e q d)

      pub going_on : {s' : State} → x ≡ Ok s' → ((t : Parsed) → f g.at ≡ on t → P t)
          → Going P B N s' bt' tt' next whole
      unfolding ◌⟫◌
      going_on q keep =
          let w = went_on e q in
          record { at = w.0; known = keep w.0 w.1; holds = w.2; same = sym (rw w.1 at split) ∙ g.same }

-- nothing read yet
pub start_holds : (B N : ℕ) → Holds B N (record { blocks = 0; tones = 0; pending = Nothing; body = None }) (zeros B) (zeros N) empty
unfolding empty
start_holds B N =
    record {
      nb = refl;
      nt = refl;
      pends = refl;
      loops = refl;
      room_b = omega arith;
      room_t = omega arith;
      len_b = length-replicate B 0;
      len_t = length-replicate N 0;
      is_b = sym (over_none block (zeros B));
      is_t = sym (over_none tone (zeros N));
    }
