-- THE SOURCE'S PLAY OVER TAPES: on well-formed rows it comes to what its turns over the list come to, and agrees with the measured player.
-- Assumes nothing.
use Rattle.std.specs.Prelude.{Result}
use Rattle.play_walk.specs.declared.Fault.{Fault}
use Prim.Native.Nat.{ℕ, ◌+◌, ◌<◌}
use native.Mathlib.Omega.{arith}
use borrow.Author.Tests.{ne_eqb}
use mathlib.Core.Path.{◌≡◌, sym, ap, ◌∙◌}
use mathlib.Core.Bool.{true}
use mathlib.Core.List.{List, [], ◌∷◌}
use Rattle.law_pulses.specs.Play.{Entry, answer, calls, Positive}
use Rattle.law_pulses.specs.Source.{Outcome, source, dropped, sources, heard, ShortCalls, Agrees}
use Rattle.law_pulses.proofs.Agreement.{source-heard, agrees, agrees_short}
use Rattle.play_entries.specs.Entries.{Label}
use Rattle.play_entries.specs.Places.{Tape}
use Rattle.play_walk.specs.declared.Position.{Position}
use Rattle.play_walk.specs.declared.Reached.{Reached}
use Rattle.play_walk.specs.Heads.{ahead, ended_in, told_reached}
use Rattle.play_deck.specs.Deck.{valid_at, unless, play_measured, source_answer, source_from, play_source}
use Rattle.play_deck.specs.Calls.{position_in, run_sources}
use Rattle.play_deck.proofs.Sourced.{source-answer}
use Rattle.play_deck.proofs.Answers.{told-position, told-ended}
use Rattle.play_deck.proofs.Whole.{all_walked, whole_fine}
use Rattle.play_entries.proofs.Formed.{whole-formed}
use Rattle.play_entries.specs.Mounted.{WholeTape}
use Rattle.play_deck.proofs.Plays.{play_told, play_place}

module _ (w : Tape) (whole : WholeTape w) where
  -- THE SOURCE'S PLAY answers what its turns over the list come to
  pub source_told : (q : Position) (n : ℕ) → valid_at w q ≡ true → 0 < n
      → play_source w q n ≡ told_reached w w (source_answer (ahead w q) n)
  unfolding play_source unless source_from
  source_told q n v p =
      rw (whole_fine w whole q v, ne_eqb n 0 (omega arith), whole-formed w whole q.block) (all_walked w (source_answer (ahead w q) n))

  -- its outcome, end included, agrees with the measured player's for the count and the sum that it drops: they are even equal
  pub source_agrees : (q : Position) (n : ℕ) → valid_at w q ≡ true → 0 < n
      → (play_source w q n ≡ play_measured w q (n + dropped (ahead w q) n))
      × Agrees (source (ahead w q) n) (heard (answer (ahead w q) (n + dropped (ahead w q) n)))
  source_agrees q n v p = (
    source_told q n v p ∙ ap (told_reached w w) (source-answer (ahead w q) n)
        ∙ sym (play_told w whole q (n + dropped (ahead w q) n) v (omega arith)),
    agrees (ahead w q) n,
  )

  -- where the source's play leaves the head: what is left to play from there is what its turns leave, and the position is valid
  pub source_place : (q : Position) (n : ℕ) → valid_at w q ≡ true → 0 < n
      → (ahead w (position_in q (play_source w q n)) ≡ (source (ahead w q) n).place)
      × (valid_at w (position_in q (play_source w q n)) ≡ true)
  unfolding heard answer
  source_place q n v p =
      let m = n + dropped (ahead w q) n in
      let e = (source_agrees q n v p).0 in
      let x = play_place w whole q m v (omega arith) in (
        ap (λ (r : Result Reached Fault). ahead w (position_in q r)) e ∙ x.0
            ∙ sym (ap (λ (o : Outcome Label). o.place) (source-heard (ahead w q) n)),
        ap (λ (r : Result Reached Fault). valid_at w (position_in q r)) e ∙ x.1,
      )

  -- and whether it has ended
  source-ended : (q : Position) (n : ℕ) → valid_at w q ≡ true → 0 < n → ended_in (play_source w q n) ≡ (source (ahead w q) n).done
  unfolding heard told_reached
  source-ended q n v p =
      let m = n + dropped (ahead w q) n in
      ap ended_in ((source_agrees q n v p).0 ∙ play_told w whole q m v (omega arith))
      ∙ told-ended (answer (ahead w q) m).tells _
      ∙ sym (ap (λ (o : Outcome Label). o.done) (source-heard (ahead w q) n))

  -- ANY CALLS of the source's play come to what the turns over the list come to
  pub sources-told : (q : Position) (n : ℕ) (ms : List ℕ) → valid_at w q ≡ true → 0 < n → Positive ms
      → ended_in (run_sources w q n ms) ≡ (sources (ahead w q) n ms).done
  unfolding run_sources sources Positive
  sources-told q n [] v p h = source-ended q n v p
  sources-told q n (m ∷ ms) v p h =
      let x = source_place q n v p in
      sources-told (position_in q (play_source w q n)) m ms x.1 h.0 h.1
      ∙ ap (λ (r : List (Entry Label)). (sources r m ms).done) x.0

  -- (not refused, so whatever the head's old place was)
  any_old : (q o : Position) (n : ℕ) → valid_at w q ≡ true → 0 < n
      → position_in o (play_source w q n) ≡ position_in q (play_source w q n)
  unfolding told_reached
  any_old q o n v p =
      let e = source_told q n v p in
      ap (position_in o) e ∙ told-position o _ _ ∙ sym (ap (position_in q) e ∙ told-position q _ _)

  pub sources_place : (q o : Position) (n : ℕ) (ms : List ℕ) → valid_at w q ≡ true → 0 < n → Positive ms
      → ahead w (position_in o (run_sources w q n ms)) ≡ (sources (ahead w q) n ms).place
  unfolding run_sources sources Positive
  sources_place q o n [] v p h = ap (ahead w) (any_old q o n v p) ∙ (source_place q n v p).0
  sources_place q o n (m ∷ ms) v p h =
      let x = source_place q n v p in
      sources_place (position_in q (play_source w q n)) o m ms x.1 h.0 h.1
      ∙ ap (λ (r : List (Entry Label)). (sources r m ms).place) x.0

  -- DEMAND 3's CLAUSE on the source's play: calls below every finite duration but 0 agree with the measured player's
  pub short_agrees : (q : Position) (n : ℕ) (ms : List ℕ) → ShortCalls (ahead w q) (n ∷ ms)
      → Agrees (sources (ahead w q) n ms) (heard (calls (ahead w q) n ms))
  short_agrees q n ms h = agrees_short (ahead w q) n ms h
