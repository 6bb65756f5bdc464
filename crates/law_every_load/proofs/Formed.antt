-- Every row of every load is formed: its data and its name lie in the tape, its numbers are small, and so are its tones'.
-- Of 'well formed' this leaves the last bits (refusal 7) and the table. Assumes nothing but that bytes are below 256.
use Prim.Native.Nat.{ℕ, ◌≤◌}
use native.Mathlib.Omega.{arith}
use mathlib.Core.Path.{refl, subst}
use mathlib.Core.Bool.{Bool, true, false, ◌&&◌}
use mathlib.Core.List.{List}
use lib.ListN.{length}
use lib.Dec.{eqb}
use Rattle.law_base.specs.Rules.{◌⇒◌, ◌∣◌}
use Rattle.rows.specs.declared.Block.{Block}
use Rattle.rows.specs.declared.Tone.{Tone}
use Rattle.rows.specs.Rows.{with_pause}
use Rattle.load_state.specs.declared.Pending.{Pending}
use Rattle.load_state.specs.Parser.{renamed, paused}
use Rattle.load_state.proofs.Kept.{all_at}
use Rattle.load_blocks.specs.declared.Origin.{Origin}
use Rattle.load_blocks.specs.Sounds.{Sound, row_of}
use Rattle.text_name.specs.Names.{unselected}
use Rattle.law_every_load.specs.Sizes.{Bytes, Range}
use Rattle.law_every_load.specs.Made.{Brought, GivenName, of, Births}
use Rattle.law_every_load.specs.OfSource.{source_table, Everywhere}
use Rattle.law_every_load.specs.Formed.{Formed}
use Rattle.law_every_load.proofs.Fine.{FineSound, FineName, deed_fine, tap_fine}

-- a name that is given
pub record Named (s : List ℕ) (mark case text chars : ℕ) : Type 0 where
  pub name : Range (length s) 256 text chars
  pub small : mark ≤ 1
  pub told : case ≤ 4

brought_fine : {s : List ℕ} {p : Pending} → Bytes s → Brought (source_table s) p → FineName s p
brought_fine {s} {p} b q = subst (FineName s) q.is (deed_fine s b q.piece q.cut.sized).name

pub given_small : {s : List ℕ} {mark case text chars : ℕ} → Bytes s → GivenName (source_table s) mark case text chars
    → Named s mark case text chars
given_small b GivenName.none =
    record { name = record { inside = omega arith; small = omega arith }; small = omega arith; told = omega arith }
given_small b (GivenName.first q) = record { name = brought_fine b q; small = omega arith; told = omega arith }
given_small b (GivenName.later q) = record { name = brought_fine b q; small = omega arith; told = omega arith }
given_small b (GivenName.text q) = record { name = brought_fine b q; small = omega arith; told = omega arith }

-- 22's pause
paused-formed : {s : List ℕ} (ts : List Tone) (r : Block) → Formed s ts r → Formed s ts (paused r)
unfolding paused
paused-formed {s} ts r h = by_cases (eqb r.endless 0 && eqb r.pause 0)
  where
    by_cases : (b : Bool) → Formed s ts (b ⇒ with_pause 3500 r ∣ r)
    by_cases true = record {
      bytes = h.bytes;
      name = h.name;
      zero = h.zero;
      one = h.one;
      pause = omega arith;
      endless = h.endless;
      selectable = h.selectable;
      named = h.named;
      tones = h.tones;
      source = h.source;
    }
    by_cases false = h

-- a row at birth
row_formed : {s : List ℕ} (origin : Origin) (d : Sound) (tone : ℕ) → FineSound s d → Formed s d.tones (row_of s origin d tone)
unfolding row_of
row_formed origin d tone h = record {
  bytes = h.bytes;
  name = omega arith;
  zero = h.zero;
  one = h.one;
  pause = h.pause;
  endless = h.endless;
  selectable = h.mark;
  named = h.named;
  tones = h.tones;
  source = record { is = refl; low = refl; silent = refl };
}

module _ (s : List ℕ) (b : Bytes s) where
  piece_formed : Births (source_table s) (Formed s)
  piece_formed origin d tone (of {piece = piece} f m) = row_formed origin d tone (all_at (deed_fine s b piece f.sized).sounds m)

  named-formed : {mark case text chars : ℕ} (ts : List Tone) (r : Block) → GivenName (source_table s) mark case text chars
      → Formed s ts r → Formed s ts (renamed mark case text chars r)
  named-formed {mark} {case} {text} {chars} ts r g h =
      let n = given_small b g in
      record {
        bytes = h.bytes;
        name = n.name.inside;
        zero = h.zero;
        one = h.one;
        pause = h.pause;
        endless = h.endless;
        selectable = n.small;
        named = n.told;
        tones = h.tones;
        source = h.source;
      }

  -- EVERY ROW IS FORMED
  pub every-formed : Everywhere s (Formed s)
  unfolding unselected
  every-formed =
      record {
        pieces = piece_formed;
        taps = λ origin d tone m. row_formed origin d tone (tap_fine s b d m);
        lasts = record {
          naming = λ mark case text chars ts r g h. named-formed ts r g h;
          pausing = λ ts r h. paused-formed ts r h;
          passing = λ ts r h.
              record {
                bytes = h.bytes;
                name = h.name;
                zero = h.zero;
                one = h.one;
                pause = h.pause;
                endless = h.endless;
                selectable = omega arith;
                named = h.named;
                tones = h.tones;
                source = h.source;
              };
        };
      }
