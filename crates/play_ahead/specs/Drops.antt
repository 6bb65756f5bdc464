-- What the source's walk drops inside a block: an entry, or a whole run. Definitions alone; assumes nothing.
use Rattle.std.specs.Prelude.{ℕ, ◌-◌, true, false, ◌&&◌, List, Option, Some, None, leb, eqb}
use Rattle.law_base.specs.Rules.{◌⇒◌, ◌∣◌}
use Rattle.rows.specs.declared.Tone.{Tone}
use Rattle.rows.specs.declared.Block.{Block}
use Rattle.play_entries.specs.declared.Phase.{Phase}
use Rattle.play_entries.specs.declared.Phase.TheVariants.{Start, Tones, Data, Edge, Pause}
use Rattle.play_entries.specs.declared.Duration.{Duration}
use Rattle.play_entries.specs.declared.Duration.TheVariants.{T, Endless}
use Rattle.play_entries.specs.Places.{length_at}
use Rattle.play_entries.specs.Entries.{tone_at, cycles_of, is_single}
use Rattle.play_steps.specs.declared.Step.{Step}
use Rattle.play_steps.specs.Steps.{cycles_step, byte_step, one_step}

-- an entry of this length is dropped where it is no longer than d; else nothing is
unfoldable pub drop_one : List ℕ → Block → Phase → Duration → ℕ → Option Step
drop_one tones r f (T t) d = leb t d ⇒ Some (one_step tones r f t) ∣ None
drop_one tones r f Endless d = None

abbrev pub drop_entry : List ℕ → List ℕ → Block → Phase → ℕ → Option Step
drop_entry tape tones r f d = drop_one tones r f (length_at tape tones r f) d

-- a repetition's second pulse; 0 where it has none
abbrev pub second_time : Block → Tone → ℕ
second_time r t = is_single r t ⇒ 0 ∣ t.len2

-- ONE TURN of the source's walk, from an entry that is full: a run of which each entry is no longer than d, else the entry
unfoldable pub drop_of : List ℕ → List ℕ → Block → Phase → ℕ → Option Step
drop_of tape tones r Start d = drop_entry tape tones r Start d
drop_of tape tones r (Tones i p true) d = drop_entry tape tones r (Tones i p true) d
drop_of tape tones r (Tones i p false) d =
    let x = tone_at tones r i in
    (leb x.len1 d && leb (second_time r x) d) ⇒ Some (cycles_step tones x r i p (cycles_of r x - p))
    ∣ drop_entry tape tones r (Tones i p false) d
drop_of tape tones r (Data pos k true) d = drop_entry tape tones r (Data pos k true) d
drop_of tape tones r (Data pos k false) d =
    (eqb k 0 && (leb r.zero d && leb r.one d)) ⇒ Some (byte_step tape r pos) ∣ drop_entry tape tones r (Data pos k false) d
drop_of tape tones r Edge d = drop_entry tape tones r Edge d
drop_of tape tones r Pause d = drop_entry tape tones r Pause d
