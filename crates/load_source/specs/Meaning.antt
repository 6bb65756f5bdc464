-- WHAT EACH PIECE MEANS IN THE SOURCE READING (rules 49 to 63, 68 to 82), a kind a line. Assumes nothing.
use Rattle.std.specs.Prelude.{ℕ, ◌/◌, List, [], ◌∷◌}
use Rattle.cut_grammar.specs.declared.Piece.{Piece}
use Rattle.cut_grammar.specs.declared.Piece.TheVariants.{Standard, Turbo, Tone as PureTone, Pulses, Pure, Generalized, Pause, GroupStart}
use Rattle.cut_grammar.specs.declared.Piece.TheVariants.{GroupEnd, LoopStart, LoopEnd, Stop48, Text, Message, Archive, Hardware}
use Rattle.cut_grammar.specs.declared.Piece.TheVariants.{Custom, Glue}
use Rattle.load_general.specs.General.{general_of}
use Rattle.load_blocks.specs.Sounds.{ms, data_bits}
use Rattle.load_blocks.specs.Blocks.{standard_header, standard_sound, turbo_sound, pure_tone_tones, tone_sound, pair_sounds}
use Rattle.load_blocks.specs.Blocks.{pure_sound, pause_sound}
use Rattle.load_blocks.specs.Deeds.{Deed, adds, groups, texts, group_ends, opens, closes, no_deed, general_deed, stop48_deed}

-- in the tape s
unfoldable pub deed_of : List ℕ → Piece → Deed
deed_of s (Standard pause from size) = adds (standard_sound (standard_header s from size) from size (ms pause) ∷ [])
deed_of s (Turbo d) = adds (turbo_sound d ∷ [])
deed_of s (PureTone half count) = adds (tone_sound (pure_tone_tones half count) ∷ [])
deed_of s (Pulses count from) = adds (pair_sounds s from 0 (count / 2))
deed_of s (Pure nil one last pause from size) = adds (pure_sound (data_bits from size nil one last) (ms pause) ∷ [])
deed_of s (Generalized g) = general_deed g (general_of s g)
deed_of s (Pause n) = adds (pause_sound n ∷ [])
deed_of s (GroupStart from size) = groups from size
deed_of s GroupEnd = group_ends
deed_of s (LoopStart times) = opens times
deed_of s LoopEnd = closes
deed_of s (Stop48 length) = stop48_deed length
deed_of s (Text from size) = texts from size
deed_of s Message = no_deed
deed_of s Archive = no_deed
deed_of s Hardware = no_deed
deed_of s Custom = no_deed
deed_of s Glue = no_deed
