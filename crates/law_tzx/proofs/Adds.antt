-- Blocks that are added play their own lengths: none, one over its tone rows, and one step behind the other. Assumes nothing.
use Prim.Native.Nat.{ℕ, ◌+◌, ◌<◌}
use native.Mathlib.Omega.{arith}
use mathlib.Core.Path.{◌≡◌, refl, sym, ap, ap₂, ◌∙◌}
use mathlib.Core.Bool.{Bool, true, false}
use mathlib.Core.List.{List, [], ◌∷◌, ◌++◌, map-append, append_assoc, append-nil}
use lib.ListN.{length, get_or, length-append, get_or-append}
use lib.Seq.{get_or-append-add}
use lib.Dec.{ltb, leb}
use Rattle.refusals.specs.Refusals.{tones_full, blocks_full}
use Rattle.law_base.specs.Rules.{◌⇒◌, ◌∣◌}
use Rattle.rows.specs.Table.{get, table_of, zeros}
use Rattle.rows.specs.Rows.{tone, decode_tone}
use Rattle.rows.specs.declared.Block.{Block}
use Rattle.rows.specs.declared.Tone.{Tone}
use Rattle.rows.proofs.Tables.{get_row}
use Rattle.play_entries.specs.Entries.{is_source, bits_at, half_of, whole_pause, entries_of}
use Rattle.play_entries.specs.Source.{source_tone, source_byte, source_entries}
use Rattle.play_entries.proofs.Sourced.{source_entries_lem}
use Rattle.load_state.specs.declared.Pending.{Pending}
use Rattle.load_state.specs.declared.Pending.TheVariants.{Nothing, First, Later, Text}
use Rattle.load_state.specs.declared.Halt.TheVariants.{Refusal}
use Rattle.load_state.specs.Parser.{Parsed, on, no, ◌⟫◌, named, with_tones, with_block, add_tones, add_block}
use Rattle.load_state.specs.Kept.{Sure, sure, none}
use Rattle.load_blocks.specs.declared.Origin.{Origin}
use Rattle.load_blocks.specs.Adds.{Lent, add_rows}
use Rattle.load_blocks.specs.Sounds.{Sound, row_of, add_sound}
use Rattle.law_tzx.specs.Format.{PulseLength, lasting}
use Rattle.law_tzx.specs.Kept.{length_of, lengths, entries_from, Plays}
use Rattle.law_tzx.proofs.Lengths.{lasting_append, block_lengths, block-lengths}

-- nothing is added
pub plays-none : {s : List ℕ} {ls : List PulseLength} {t u : Parsed} → u.blocks ≡ t.blocks → u.tones ≡ t.tones
    → lasting ls ≡ [] → Plays s ls t u
unfolding entries_from lasting
plays-none {t = t} p q e =
    record {
      blocks = [];
      tones = [];
      added = p ∙ sym (append-nil t.blocks);
      under = q ∙ sym (append-nil t.tones);
      plays = λ more N b. sym e;
    }

-- the entries of more blocks
pub list_append : (s tt : List ℕ) (b : ℕ) (xs ys : List Block)
    → entries_from s tt b (xs ++ ys) ≡ entries_from s tt b xs ++ entries_from s tt (b + length xs) ys
unfolding entries_from
list_append s tt b [] ys = let z : b + 0 ≡ b = omega arith in ap (λ (k : ℕ). entries_from s tt k ys) (sym z)
list_append s tt b (x ∷ xs) ys =
    let z : b + 1 + length xs ≡ b + length (x ∷ xs) = omega arith in
    ap (λ l. entries_of s tt b x ++ l)
    (list_append s tt (b + 1) xs ys ∙ ap (λ (k : ℕ). entries_from s tt (b + 1) xs ++ entries_from s tt k ys) z)
    ∙ sym (append_assoc (entries_of s tt b x) (entries_from s tt (b + 1) xs) (entries_from s tt (b + length (x ∷ xs)) ys))

-- one step, then another
pub plays_then : {s : List ℕ} {ls ms : List PulseLength} {t u v : Parsed} → Plays s ls t u → Plays s ms u v → Plays s (ls ++ ms) t v
plays_then {s} {ls} {ms} {t} {u} {v} p q =
    record {
      blocks = p.blocks ++ q.blocks;
      tones = p.tones ++ q.tones;
      added = q.added ∙ ap (λ (l : List Block). l ++ q.blocks) p.added ∙ append_assoc t.blocks p.blocks q.blocks;
      under = q.under ∙ ap (λ (l : List Tone). l ++ q.tones) p.under ∙ append_assoc t.tones p.tones q.tones;
      plays = λ more N b.
          let tt = table_of tone (v.tones ++ more) N in
          let same : v.tones ++ more ≡ u.tones ++ (q.tones ++ more) =
          ap (λ (l : List Tone). l ++ more) q.under ∙ append_assoc u.tones q.tones more in
          let first : lasting (lengths (entries_from s tt b p.blocks)) ≡ lasting ls =
          ap (λ (l : List Tone). lasting (lengths (entries_from s (table_of tone l N) b p.blocks))) same
          ∙ p.plays (q.tones ++ more) N b in
          let second : lasting (lengths (entries_from s tt (b + length p.blocks) q.blocks)) ≡ lasting ms =
          q.plays more N (b + length p.blocks) in
          ap (λ l. lasting (lengths l)) (list_append s tt b p.blocks q.blocks)
          ∙ ap lasting (map-append length_of (entries_from s tt b p.blocks) (entries_from s tt (b + length p.blocks) q.blocks))
          ∙ lasting_append (lengths (entries_from s tt b p.blocks)) (lengths (entries_from s tt (b + length p.blocks) q.blocks))
          ∙ ap₂ (λ (x y : List PulseLength). x ++ y) first second
          ∙ sym (lasting_append ls ms);
    }

-- lengths that sound the same
pub plays_as : {s : List ℕ} {ls ms : List PulseLength} {t u : Parsed} → lasting ls ≡ lasting ms → Plays s ls t u → Plays s ms t u
plays_as e p =
    record { blocks = p.blocks; tones = p.tones; added = p.added; under = p.under; plays = λ more N b. p.plays more N b ∙ e }

-- a source row's name is not heard
source-named : (s tt : List ℕ) (b : ℕ) (p : Pending) (r : Block) → source_entries s tt b (named p r) ≡ source_entries s tt b r
unfolding source_entries source_tone source_byte bits_at half_of whole_pause
source-named s tt b Nothing r = refl
source-named s tt b (First text chars) r = refl
source-named s tt b (Later text chars) r = refl
source-named s tt b (Text text chars) r = refl

sort_named : (p : Pending) (r : Block) → is_source r ≡ true → is_source (named p r) ≡ true
sort_named Nothing r e = e
sort_named (First text chars) r e = e
sort_named (Later text chars) r e = e
sort_named (Text text chars) r e = e

named-same : (s tt : List ℕ) (b : ℕ) (p : Pending) (r : Block) → is_source r ≡ true
    → entries_of s tt b (named p r) ≡ entries_of s tt b r
named-same s tt b p r e =
    source_entries_lem tt b (named p r) (sort_named p r e) s ∙ source-named s tt b p r ∙ sym (source_entries_lem tt b r e s)

abbrev blank : Tone
blank = decode_tone []

module _ (s : List ℕ) (origin : Origin) (d : Sound) (ls : List PulseLength)
    (same : (n : ℕ) → block_lengths s d.tones (row_of s origin d n) ≡ lasting ls) where
  own : (t : Parsed) (more : List Tone) (N i : ℕ) → i < length d.tones
      → get tone (table_of tone ((t.tones ++ d.tones) ++ more) N) ((row_of s origin d (length t.tones)).tone + i)
      ≡ get_or d.tones i blank
  unfolding row_of
  own t more N i k =
      let n = length t.tones in
      let all = (t.tones ++ d.tones) ++ more in
      let h : n + i < length (t.tones ++ d.tones) = rw length-append (omega arith) in
      let l : n + i < length all = rw length-append (omega arith) in
      get_row tone all (zeros N) (n + i) blank l
      ∙ get_or-append (t.tones ++ d.tones) more blank (n + i) h
      ∙ get_or-append-add t.tones d.tones i blank

  row_plays : (t : Parsed) → Plays s ls t (with_block (row_of s origin d (length t.tones)) (with_tones d.tones t))
  unfolding entries_from row_of
  row_plays t =
      let r = row_of s origin d (length t.tones) in
      record {
        blocks = named t.pending r ∷ [];
        tones = d.tones;
        added = refl;
        under = refl;
        plays = λ more N b.
            let all = (t.tones ++ d.tones) ++ more in
            let tt = table_of tone all N in
            ap (λ l. lasting (lengths l)) (append-nil (entries_of s tt b (named t.pending r)) ∙ named-same s tt b t.pending r refl)
            ∙ block-lengths s tt b r refl d.tones blank refl (own t more N)
            ∙ same (length t.tones);
      }

  -- A BLOCK ADDED
  pub sound_plays : (lent : Lent) (t : Parsed) → Sure (Plays s ls t) (add_sound lent s origin d t)
  unfolding add_sound add_rows add_tones add_block ◌⟫◌
  sound_plays lent t = by-tones (leb (length t.tones + length d.tones) lent.tones)
    where
      by_blocks : (c : Bool)
          → Sure (Plays s ls t)
          (c ⇒ on (with_block (row_of s origin d (length t.tones)) (with_tones d.tones t)) ∣ no (Refusal blocks_full))
      by_blocks true = sure (row_plays t)
      by_blocks false = none

      by-tones : (c : Bool)
          → Sure (Plays s ls t)
          ((c ⇒ on (with_tones d.tones t) ∣ no (Refusal tones_full)) ⟫ add_block lent.blocks (row_of s origin d (length t.tones)))
      by-tones true = by_blocks (ltb (length t.blocks) lent.blocks)
      by-tones false = none
