-- A well-formed row is well formed in its words and in its tone rows. Assumes nothing.
use Rattle.std.proofs.Common.{◌≡◌, ℕ, ◌+◌, ◌*◌, ◌≤◌, Bool, true, false, ◌&&◌, List, refl, length}
use Rattle.law_base.proofs.Tests.{first, second}
use Rattle.rows.specs.Well.{well_ranges, well_numbers, well_sound, well_cases, well_tones, well_block}
use Rattle.rows.specs.Rows.{tone}
use Rattle.rows.specs.declared.Block.{Block}
use Rattle.rows.proofs.WellLaws.{tones_lent}
use Rattle.rows_well.specs.Words.{well_words}

joined : (a b c d e : Bool) → (a && (b && (c && (d && e)))) ≡ ((a && (b && (c && d))) && e)
joined true true true d e = refl
joined true true false d e = refl
joined true false c d e = refl
joined false b c d e = refl

pub words_tones : (tape : ℕ) (tones : List ℕ) (r : Block)
    → well_block tape tones r ≡ (well_words tape tones r && well_tones tones r.tone r.tones)
unfolding well_block well_words
words_tones tape tones r =
    joined (well_ranges tape tones r) (well_numbers r) (well_sound r) (well_cases r) (well_tones tones r.tone r.tones)

-- its words' clauses
pub record WordsClauses (tape : ℕ) (tones : List ℕ) (r : Block) : Type 0 where
  pub ranges : well_ranges tape tones r ≡ true
  pub numbers : well_numbers r ≡ true
  pub cases : well_cases r ≡ true

pub words_clauses : (tape : ℕ) (tones : List ℕ) (r : Block) → well_words tape tones r ≡ true → WordsClauses tape tones r
unfolding well_words
words_clauses tape tones r e =
    let n = second (well_ranges tape tones r) (well_numbers r && (well_sound r && well_cases r)) e in
    record {
      ranges = first (well_ranges tape tones r) (well_numbers r && (well_sound r && well_cases r)) e;
      numbers = first (well_numbers r) (well_sound r && well_cases r) n;
      cases = second (well_sound r) (well_cases r) (second (well_numbers r) (well_sound r && well_cases r) n);
    }

-- the tone rows of a block whose words are well formed are lent
pub words_lent : (tape : ℕ) (tones : List ℕ) (r : Block) → well_words tape tones r ≡ true
    → (r.tone + r.tones) * tone.width ≤ length tones
words_lent tape tones r e = tones_lent tape tones r (words_clauses tape tones r e).ranges
