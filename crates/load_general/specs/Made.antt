-- The answers of the code: a part's, and the piece's with the tone table that it leaves. Assumes nothing.
use Rattle.std.specs.Prelude.{ℕ, ◌-◌, ◌≡◌, Bool, true, false, Result, Ok, Err, List, [], length, leb}
use Rattle.law_base.specs.Rules.{◌⇒◌, ◌∣◌}
use Rattle.rows.specs.Table.{put_all, capacity_of}
use Rattle.rows.specs.Rows.{tone, tone_most}
use Rattle.rows.specs.declared.Tone.{Tone}
use Rattle.load_general.specs.declared.NoRows.{NoRows}
use Rattle.load_general.specs.declared.NoRows.TheVariants.{Refused, Full, Stop}
use Rattle.load_general.specs.declared.Made.{Made}
use Rattle.load_general.specs.declared.Made.TheVariants.{Data, Tones}
use Rattle.load_general.specs.General.{Part, refused, stops, tones, Given, refused4, stop, plain, toned}

-- a part: its tones are told by their number
unfoldable pub judged_of : Part → Result ℕ NoRows
judged_of refused = Err Refused
judged_of stops = Err Stop
judged_of (tones ts) = Ok (length ts)

-- whether a part is tones, and which
unfoldable pub is_tones : Part → Bool
is_tones refused = false
is_tones stops = false
is_tones (tones ts) = true

unfoldable pub part_tones : Part → List Tone
part_tones refused = []
part_tones stops = []
part_tones (tones ts) = ts

-- the piece, where `room` rows remain: refusal 4 and a stop need none, and more rows than remain are Full
unfoldable pub made_of : ℕ → Given → Result Made NoRows
made_of room refused4 = Err Refused
made_of room stop = Err Stop
made_of room (plain ts nil one last) = leb (length ts) room ⇒ Ok (Data (length ts) nil one last) ∣ Err Full
made_of room (toned ts) = leb (length ts) room ⇒ Ok (Tones (length ts)) ∣ Err Full

-- the tone table after it: its rows put from row `used` on, where they fit
unfoldable pub leaves : ℕ → List ℕ → ℕ → Given → List ℕ
leaves room t used refused4 = t
leaves room t used stop = t
leaves room t used (plain ts nil one last) = leb (length ts) room ⇒ put_all tone t used ts ∣ t
leaves room t used (toned ts) = leb (length ts) room ⇒ put_all tone t used ts ∣ t

-- the answer r, and the tone table t that has become t'
pub record MadeDone (given : Given) (used : ℕ) (t t' : List ℕ) (r : Result Made NoRows) : Type 0 where
  pub answer : r ≡ made_of (capacity_of tone tone_most t - used) given
  pub table : t' ≡ leaves (capacity_of tone tone_most t - used) t used given
