-- On every table that a load leaves, with a number below the count, no query answers 8, 9 or 11, the times are the pulse list's,
-- and the loading time is in words what rule 112 says. Assumes nothing but that bytes are below 256.
use Prim.Native.Nat.{ℕ, ◌<◌}
use mathlib.Core.List.{List}
use mathlib.Core.Path.{◌≡◌, ◌∙◌}
use Rattle.std.specs.Prelude.{Ok}
use Rattle.law_pulses.specs.Sounding.{SoundsUpTo}
use Rattle.law_pulses.proofs.Sounding.{sounding_is}
use Rattle.load_blocks.specs.Does.{lent_of}
use Rattle.load_tape.specs.declared.Format.{Format}
use Rattle.load_tape.specs.Load.{load_named, Leaves, loaded_as}
use Rattle.play_entries.specs.Places.{list_from, sounds, load_time}
use Rattle.play_entries.specs.Mounted.{tape_of}
use Rattle.law_every_load.specs.Sizes.{Bytes}
use Rattle.law_every_load.proofs.Left.{left_whole}
use Rattle.law_every_load.proofs.Timed.{left_timed}
use Rattle.ask.proofs.Answers.{whole_answered}
use Rattle.ask.proofs.Listed.{time_by_list, loading_by_list, listed-whole}
use Rattle.ask.specs.Queries.{time_of, loading_of, EachAnswered}
use Rattle.ask.specs.Listed.{time_listed, loading_listed}

module _ (B N : ℕ) (s : List ℕ) (model : ℕ) {f : Format} {n k : ℕ} {bt tt : List ℕ} (b : Bytes s)
    (l : Leaves B N (load_named (lent_of B N) s model) (Ok (loaded_as f n k)) bt tt) where
  pub loaded_answers : (i : ℕ) → i < n → EachAnswered (tape_of s tt bt n) i
  loaded_answers i h = whole_answered (tape_of s tt bt n) (left_whole B N s model b l) i h

  -- the times that the rows' words come to are the list's
  pub time-listed : (i : ℕ) → i < n → time_of (tape_of s tt bt n) i ≡ time_listed (tape_of s tt bt n) i
  time-listed i h = time_by_list (tape_of s tt bt n) (left_timed B N s model b l) i h

  pub loading_listed_lem : loading_of (tape_of s tt bt n) ≡ loading_listed (tape_of s tt bt n)
  loading_listed_lem = loading_by_list (tape_of s tt bt n) (left_whole B N s model b l) (left_timed B N s model b l)

  -- the loading time: a last tone or data entry with length before the first stop or the end, and the time up to its end; or none, and 0
  pub loaded_loading : (m : ℕ) × (loading_of (tape_of s tt bt n) ≡ Ok m) × SoundsUpTo sounds (list_from (tape_of s tt bt n) 0) m
  loaded_loading = (
    load_time (tape_of s tt bt n),
    loading_listed_lem ∙ listed-whole (tape_of s tt bt n) (left_whole B N s model b l),
    sounding_is sounds (list_from (tape_of s tt bt n) 0),
  )
