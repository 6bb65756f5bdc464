-- The numbers that a host gets are those that each crate states of its own answers. Assumes nothing.
use Rattle.std.specs.Prelude.{Result, Ok, Err}
use Rattle.std.proofs.Common.{◌≡◌, ℕ, Bool, refl}
use Rattle.refusals.specs.declared.Refusal.{Refusal}
use Rattle.refusals.specs.Refusals.{answer_no}
use Rattle.play_entries.specs.declared.Duration.{Duration}
use Rattle.play_walk.specs.declared.Reached.{Reached}
use Rattle.play_walk.specs.declared.Fault.{Fault}
use Rattle.play_walk.specs.Heads as walks
use Rattle.play_deck.specs.Deck.{number_for}
use Rattle.load_tape.specs.declared.Loaded.{Loaded}
use Rattle.load_tape.specs.declared.NotLoaded.{NotLoaded}
use Rattle.load_tape.specs.declared.NotLoaded.TheVariants.{Unread, Refused}
use Rattle.load_tape.specs.Load.{refusal_no}
use Rattle.host_answers.specs.Answers.{of_number, of_mark, of_time, of_selected, of_reached, of_loaded}

pub number-no : (a : Result ℕ Refusal) → (of_number a).no ≡ answer_no a
number-no (Ok n) = refl
number-no (Err k) = refl

pub mark_no_lem : (a : Result Bool Refusal) → (of_mark a).no ≡ answer_no a
mark_no_lem (Ok b) = refl
mark_no_lem (Err k) = refl

pub time-no : (a : Result Duration Refusal) → (of_time a).no ≡ answer_no a
time-no (Ok d) = refl
time-no (Err k) = refl

pub selected_no : (a : Result ℕ Fault) → (of_selected a).no ≡ number_for a
unfolding number_for
selected_no (Ok b) = refl
selected_no (Err f) = refl

pub reached-no : (a : Result Reached Fault) → (of_reached a).no ≡ walks.reached_no a
unfolding walks.reached_no
reached-no (Ok a) = refl
reached-no (Err f) = refl

pub loaded_no : (a : Result Loaded NotLoaded) → (of_loaded a).no ≡ refusal_no a
unfolding refusal_no
loaded_no (Ok l) = refl
loaded_no (Err (Unread f g)) = refl
loaded_no (Err (Refused k)) = refl
