-- Every row's own tones are among those that were read. Assumes nothing but that bytes are below 256.
use Prim.Native.Nat.{ℕ, ◌+◌, ◌≤◌}
use mathlib.Core.Bool.{false}
use mathlib.Core.List.{List}
use lib.ListN.{length}
use Rattle.rows.specs.declared.Block.{Block}
use Rattle.rows.specs.declared.Tone.{Tone}
use Rattle.load_state.specs.Parser.{Parsed}
use Rattle.load_state.proofs.Kept.{all_also}
use Rattle.load_state.specs.Kept.{All}
use Rattle.load_blocks.specs.Adds.{Lent}
use Rattle.load_source.specs.Source.{load_of}
use Rattle.text_name.specs.Names.{name_all}
use Rattle.law_every_load.specs.Sizes.{Bytes}
use Rattle.law_every_load.specs.OfSource.{Reads, Everywhere}
use Rattle.law_every_load.proofs.Every.{every_row}

abbrev Any : List Tone → Block → Type 0
Any ts r = Unit {0}

any : (s : List ℕ) → Everywhere s Any
any s = record {
  pieces = λ origin d tone m. tt;
  taps = λ origin d tone m. tt;
  lasts = record { naming = λ mark case text chars ts r g h. tt; pausing = λ ts r h. tt; passing = λ ts r h. tt };
}

pub rows-within : (lent : Lent) (s : List ℕ) (model : ℕ) {t : Parsed} → Bytes s → Reads (load_of lent s model) t
    → All (λ r. r.tone + r.tones ≤ length t.tones) (name_all s false t.blocks)
rows-within lent s model b r = all_also (λ q h. h.inside) (every_row lent s model (any s) b r)
