-- KEEPS: the source reading plays a kept piece as the format says, in lengths.
-- Assumes nothing but, of a 19, that its tables are where its numbers say.
use Prim.Native.Nat.{ℕ}
use mathlib.Core.Path.{◌≡◌, refl, sym}
use mathlib.Core.Bool.{true}
use mathlib.Core.List.{List}
use lib.ListN.{length}
use lib.Dec.{eqb}
use Rattle.cut_grammar.specs.declared.Piece.{Piece}
use Rattle.cut_grammar.specs.declared.Piece.TheVariants.{Standard, Turbo, Tone as PureTone, Pulses, Pure, Generalized, Pause, GroupStart}
use Rattle.cut_grammar.specs.declared.Piece.TheVariants.{GroupEnd, LoopStart, LoopEnd, Stop48, Text, Message, Archive, Hardware}
use Rattle.cut_grammar.specs.declared.Piece.TheVariants.{Custom, Glue}
use Rattle.load_source.specs.Meaning.{deed_of}
use Rattle.load_source.specs.Source.{act}
use Rattle.load_state.specs.Parser.{Parsed, pend, open_loop}
use Rattle.load_state.specs.Kept.{Sure, sure}
use Rattle.load_blocks.specs.declared.Origin.{Origin}
use Rattle.load_blocks.specs.Adds.{Lent}
use Rattle.load_blocks.specs.Sounds.{add_sounds}
use Rattle.load_blocks.specs.Deeds.{does}
use Rattle.law_tzx.specs.Format.{format_of}
use Rattle.law_tzx.specs.Kept.{kept, Keeps, Tables}
use Rattle.law_tzx.proofs.Waves.{differ}
use Rattle.law_tzx.proofs.KeepSounds.{keep11, keep12, keep14, keep20, keep_none, keep_2a}
use Rattle.law_tzx.proofs.KeepPulses.{keep13}
use Rattle.law_tzx.proofs.KeepGeneral.{keep19}

-- THE THEOREM: the blocks that a kept piece adds play the lengths above 0 that the format gives it, in order
pub keeps : (lent : Lent) (origin : Origin) (s : List ℕ) (model : ℕ) (piece : Piece) (t : Parsed) → Tables s piece
    → kept s piece ≡ true → Sure (λ u. Keeps s t u (format_of (eqb model 0) s piece)) (act lent s model origin piece t)
unfolding kept format_of act deed_of does add_sounds pend open_loop
keeps lent origin s model (Standard pause from size) t places e = absurd (differ (sym e))
keeps lent origin s model (Turbo d) t places e = keep11 lent origin s t d e
keeps lent origin s model (PureTone half count) t places e = keep12 lent origin s t half count e
keeps lent origin s model (Pulses count from) t places e = keep13 lent origin s t count from e
keeps lent origin s model (Pure off one last pause from size) t places e = keep14 lent origin s t off one last pause from size e
keeps lent origin s model (Generalized g) t places e = keep19 lent origin s model t g (places g refl) e
keeps lent origin s model (Pause n) t places e = keep20 lent origin s t n
keeps lent origin s model (GroupStart from size) t places e = sure (keep_none refl refl)
keeps lent origin s model GroupEnd t places e = absurd (differ (sym e))
keeps lent origin s model (LoopStart times) t places e = rw e (sure (keep_none refl refl))
keeps lent origin s model LoopEnd t places e = absurd (differ (sym e))
keeps lent origin s model (Stop48 length) t places e = keep_2a lent origin s t model length e
keeps lent origin s model (Text from size) t places e = sure (keep_none refl refl)
keeps lent origin s model Message t places e = sure (keep_none refl refl)
keeps lent origin s model Archive t places e = sure (keep_none refl refl)
keeps lent origin s model Hardware t places e = sure (keep_none refl refl)
keeps lent origin s model Custom t places e = sure (keep_none refl refl)
keeps lent origin s model Glue t places e = sure (keep_none refl refl)
