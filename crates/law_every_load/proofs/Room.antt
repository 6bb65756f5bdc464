-- Every load's rows fit the lent rows, its data blocks have last bits of at most 8, and its tape is no longer than a tape may be.
-- Assumes nothing but that bytes are below 256.
use Prim.Native.Nat.{ℕ, ◌≤◌, ◌<◌}
use native.Mathlib.Omega.{arith}
use mathlib.Core.Path.{◌≡◌, refl}
use mathlib.Core.Bool.{Bool, true, false, ◌&&◌}
use mathlib.Core.List.Memᴰ
use mathlib.Core.List.{List, [], ◌∷◌}
use lib.ListN.{length, length-append}
use lib.Dec.{leb, ltb}
use borrow.Author.Tests.{ltb-false}
use Rattle.refusals.specs.Refusals.{bad_model, tape_long}
use Rattle.law_base.specs.Rules.{◌⇒◌, ◌∣◌}
use Rattle.rows.specs.declared.Block.{Block}
use Rattle.rows.specs.declared.Tone.{Tone}
use Rattle.load_state.specs.declared.Pending.{Pending}
use Rattle.load_state.specs.Parser.{Parsed, empty}
use Rattle.load_state.proofs.Adds.{paused-length}
use Rattle.load_state.proofs.Kept.{all_also}
use Rattle.load_state.specs.Kept.{All, nil, cons}
use Rattle.load_blocks.specs.declared.Origin.{Origin}
use Rattle.load_blocks.specs.Sounds.{Sound, row_of}
use Rattle.load_blocks.specs.Blocks.{standard_sound}
use Rattle.load_blocks.specs.Adds.{Lent}
use Rattle.load_source.specs.Source as source
use Rattle.load_source.specs.Source.{too_many_bits, Load, read_tzx, read_tap, or_else, load_of}
use Rattle.text_name.specs.Names.{unselected, name_all}
use Rattle.law_every_load.specs.Sizes.{Bytes}
use Rattle.law_every_load.specs.Made.{Pends, OfPiece, of, RowOver, Births, LastsThrough}
use Rattle.law_every_load.specs.OfSource.{source_table, tap_table, Reads, as_tzx, as_tap}
use Rattle.law_every_load.specs.Keeps.{Invariant}
use Rattle.law_every_load.proofs.Loading.{load_keeps}
use Rattle.law_every_load.proofs.Rows.{paused-same, rows_keep, named_all}

-- no more rows than are lent
pub record Within (lent : Lent) (t : Parsed) : Type 0 where
  pub blocks : length t.blocks ≤ lent.blocks
  pub tones : length t.tones ≤ lent.tones

within_keeps : (lent : Lent) (s : List ℕ) (M : Sound → Origin → Type 0) (Q : Pending → Type 0) → Invariant lent s M Q (Within lent)
unfolding empty
within_keeps lent s M Q =
    record {
      begins = record { blocks = omega arith; tones = omega arith };
      adding = λ origin d t m a b h. record { blocks = rw length-append (omega arith); tones = rw length-append a };
      steps = record {
        copying = λ r t i b h. record { blocks = rw length-append (omega arith); tones = h.tones };
        naming = λ p t q h. record { blocks = h.blocks; tones = h.tones };
        pausing = λ t h. record { blocks = rw (paused-length t.blocks) h.blocks; tones = h.tones };
        looping = λ l t h. record { blocks = h.blocks; tones = h.tones };
      };
    }

-- nothing said
abbrev Any : Parsed → Type 0
Any t = Unit {0}

any_keeps : (lent : Lent) (s : List ℕ) (M : Sound → Origin → Type 0) (Q : Pending → Type 0) → Invariant lent s M Q Any
any_keeps lent s M Q =
    record {
      begins = tt;
      adding = λ origin d t m a b h. tt;
      steps = record { copying = λ r t i b h. tt; naming = λ p t q h. tt; pausing = λ t h. tt; looping = λ l t h. tt };
    }

-- last bits at most 8 where there is data
abbrev pub FewBits : Block → Type 0
FewBits r = 0 < r.size → r.last ≤ 8

bits_one : (r : Block) (rest : Bool) → ((ltb 0 r.size && ltb 8 r.last) ⇒ true ∣ rest) ≡ false
    → FewBits r × (rest ≡ false)
bits_one r rest e = by_cases (ltb 0 r.size) (ltb 8 r.last) refl refl e
  where
    by_cases : (a b : Bool) → ltb 0 r.size ≡ a → ltb 8 r.last ≡ b → ((a && b) ⇒ true ∣ rest) ≡ false
        → FewBits r × (rest ≡ false)
    by_cases true true p q f = absurd (let z : ◌≡◌ {A = ℕ} 0 1 = cc in omega arith)
    by_cases true false p q f = (λ _. ltb-false 8 r.last q, f)
    by_cases false b p q f = (λ h. absurd (let z = ltb-false 0 r.size p in omega arith), f)

bits_all : (rs : List Block) → too_many_bits rs ≡ false → All FewBits rs
unfolding too_many_bits
bits_all [] e = nil
bits_all (r ∷ rs) e = let p = bits_one r (too_many_bits rs) e in cons p.0 (bits_all rs p.1)

-- a TAP's rows use 8 bits of the last byte
abbrev Eight : List Tone → Block → Type 0
Eight ts r = r.last ≡ 8

eight-lasts : (s : List ℕ) → LastsThrough (source_table s) Eight
unfolding unselected
eight-lasts s =
    record {
      naming = λ mark case text chars ts r g h. h;
      pausing = λ ts r h. rw (paused-same (λ q. q.last) r refl) h;
      passing = λ ts r h. h;
    }

tap_eight : {s : List ℕ} → Births (tap_table s) Eight
unfolding standard_sound row_of
tap_eight origin d tone (of f (Memᴰ.head e)) = rw e refl
tap_eight {s = s} _ d tone (of {at = at} {piece = piece} f (Memᴰ.tail x6)) = elim x6 [ ]

eight_bits : {all : List Tone} (r : Block) → RowOver Eight all r → FewBits r
eight_bits r h n = omega (arith, h.has)

-- a refused load reads nothing
not-refused : {a : Load} {t : Parsed} {j : ℕ} → Reads a t → a ≡ source.no j → ⊥
not-refused as_tzx e = let z : ◌≡◌ {A = ℕ} 0 1 = cc in omega arith
not-refused as_tap e = let z : ◌≡◌ {A = ℕ} 0 1 = cc in omega arith

past_two : (a : Load) {t : Parsed} (m n : Bool) → Reads (m ⇒ source.no bad_model ∣ n ⇒ source.no tape_long ∣ a) t → n ≡ false
past_two a true n r = absurd (not-refused r refl)
past_two a false true r = absurd (not-refused r refl)
past_two a false false r = refl

module _ (lent : Lent) (s : List ℕ) (model : ℕ) {t : Parsed} where
  -- ALL ROWS ARE LENT ONES
  pub load_within : Bytes s → Reads (load_of lent s model) t → Within lent t
  load_within b r =
      load_keeps lent s model b (within_keeps lent s (OfPiece (source_table s)) (Pends (source_table s)))
      (within_keeps lent s (OfPiece (tap_table s)) (Pends (source_table s))) (λ u h. h.kept) (λ u h. h) r

  -- LAST BITS: for TZX by refusal 7, for TAP by the standard block's 8
  pub read_bits : Bytes s → Reads (load_of lent s model) t → All FewBits t.blocks
  read_bits b r =
      load_keeps lent s model b (any_keeps lent s (OfPiece (source_table s)) (Pends (source_table s)))
      (rows_keep (eight-lasts s) tap_eight lent) (λ u h. bits_all u.blocks h.bits) (λ u h. all_also eight_bits h.rows) r

  pub load_bits : Bytes s → Reads (load_of lent s model) t → All FewBits (name_all s false t.blocks)
  unfolding unselected
  load_bits b r = named_all s (λ q h. h) false (read_bits b r)

  -- refusal 2
  pub load_length : Reads (load_of lent s model) t → length s ≤ 1048576
  unfolding load_of
  load_length r =
      ltb-false 1048576 (length s) (past_two (or_else (read_tzx lent s model) (read_tap lent s)) (leb 3 model) (ltb 1048576 (length s)) r)
