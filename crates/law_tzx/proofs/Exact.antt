-- EXACT: a piece that is not kept is not played as the format says, or nothing is said of it; for every kind but 19, and 22 and 25, which
-- add no block of their own. Assumes nothing.
use Prim.Native.Nat.{ℕ, zero, suc, ◌+◌, ◌*◌, ◌-◌, ◌/◌, ◌%◌, ◌≤◌, ◌<◌, max}
use native.Mathlib.Omega.{arith}
use mathlib.Core.Path.{◌≡◌, refl, sym, ap, ap₂, ◌∙◌}
use mathlib.Core.Bool.{Bool, true, false, ◌&&◌, ◌||◌}
use mathlib.Core.List.{List, [], ◌∷◌, ◌++◌, map, append_assoc}
use lib.ListN.{length, get_or, drop, length-append}
use lib.Seq.{drop_at}
use lib.Dec.{ltb, eqb}
use borrow.Author.Tests.{lt-ltb, ltb-false, eq-eqb, eqb-false, ne_eqb}
use Rattle.law_base.specs.Rules.{◌⇒◌, ◌∣◌}
use Rattle.law_base.proofs.Tests.{neither}
use Rattle.cut_fields.specs.Field.{le_at}
use Rattle.rows.specs.Table.{table_of}
use Rattle.rows.specs.Rows.{tone}
use Rattle.rows.specs.declared.Block.{Block}
use Rattle.cut_grammar.specs.declared.TurboData.{TurboData}
use Rattle.cut_grammar.specs.declared.Piece.{Piece}
use Rattle.cut_grammar.specs.declared.Piece.TheVariants.{Standard, Turbo, Tone as PureTone, Pulses, Pure, Generalized, Pause, GroupStart}
use Rattle.cut_grammar.specs.declared.Piece.TheVariants.{GroupEnd, LoopStart, LoopEnd, Stop48, Text, Message, Archive, Hardware}
use Rattle.cut_grammar.specs.declared.Piece.TheVariants.{Custom, Glue}
use Rattle.load_state.specs.Parser.{Parsed, Out, on, no}
use Rattle.load_state.proofs.Kept.{sure_also}
use Rattle.load_state.specs.Kept.{Sure, sure, none}
use Rattle.load_blocks.specs.declared.Origin.{Origin}
use Rattle.load_general.specs.General.{plain_tone}
use Rattle.load_blocks.specs.Sounds.{ms, Sound, row_of, add_sounds}
use Rattle.load_blocks.specs.Blocks.{standard_header, standard_cycles, standard_tones, turbo_tones, pure_tone_tones, standard_sound, turbo_sound}
use Rattle.load_blocks.specs.Blocks.{tone_sound, pair_sounds}
use Rattle.load_blocks.specs.Adds.{Lent}
use Rattle.load_blocks.specs.Deeds.{does}
use Rattle.load_blocks.proofs.Laws.{one_sound}
use Rattle.load_source.specs.Meaning.{deed_of}
use Rattle.load_source.specs.Source.{act}
use Rattle.law_tzx.specs.Format.{PulseLength, lasts, PulseTrain, Said, sounds, unsaid, pause_ms, each, again, data_pulses, bits_said}
use Rattle.law_tzx.specs.Format.{pilot_count, format10, format11, format12, format13, format14, format_2a, format_of}
use Rattle.law_tzx.specs.Format.{lengths_of, lasting}
use Rattle.law_tzx.specs.Kept.{even_count, kept11, kept12, kept13, kept, exact_kind, lengths, entries_from, Plays, Keeps, as_said}
use Rattle.law_tzx.proofs.Lengths.{long, long_append, lasting_append, waves_of, data_in, pause_in, block_lengths}
use Rattle.law_tzx.proofs.Adds.{sound_plays}
use Rattle.law_tzx.proofs.Waves.{differ, each_split, once, again_more, cycles-pulses, data_same}
use Rattle.law_tzx.proofs.Bits.{single}
use Rattle.law_tzx.proofs.KeepSounds.{turbo_pause}
use Rattle.law_tzx.proofs.KeepPulses.{pulse_in, no_pause, pairs_play}

-- blocks that were added play one list of lengths
plays_once : {s : List ℕ} {ls ms : List PulseLength} {t u : Parsed} → Plays s ls t u → Plays s ms t u → lasting ls ≡ lasting ms
plays_once {s} {ls} {ms} {t} {u} p q =
    let n = length t.blocks in
    let a : drop n u.blocks ≡ p.blocks = ap (drop n) p.added ∙ drop_at t.blocks p.blocks n refl in
    let b : drop n u.blocks ≡ q.blocks = ap (drop n) q.added ∙ drop_at t.blocks q.blocks n refl in
    let tt = table_of tone (u.tones ++ []) 0 in
    sym (p.plays [] 0 0) ∙ ap (λ (bs : List Block). lasting (lengths (entries_from s tt 0 bs))) (sym a ∙ b) ∙ q.plays [] 0 0

pub said_of : {x y : PulseTrain} → sounds x ≡ sounds y → x ≡ y
said_of e = cc

keeps_once : {s : List ℕ} {ls : List PulseLength} {t u : Parsed} {said : Said} (x : PulseTrain) → said ≡ sounds x → Plays s ls t u
    → Keeps s t u said → lasting ls ≡ lasting (lengths_of x)
keeps_once x e p (as_said {x = y} q) = plays_once p q ∙ ap (λ (z : PulseTrain). lasting (lengths_of z)) (said_of e)

-- how many are heard
abbrev count : List ℕ → ℕ
count xs = length (long xs)

count_append : (xs ys : List ℕ) → count (xs ++ ys) ≡ count xs + count ys
count_append xs ys = ap length (long_append xs ys) ∙ length-append (long xs) (long ys)

count_none : (x : ℕ) → count (again 0 (suc x ∷ [])) ≡ 0
unfolding each lasting
count_none x = refl

count_again : (x n : ℕ) → count (again n (suc x ∷ [])) ≡ n
unfolding lasting
count_again x zero = count_none x
count_again x (suc n) = ap count (again_more (suc x ∷ []) n) ∙ let h = count_again x n in omega arith

count_cycles : (x m : ℕ) → count (again m (suc x ∷ suc x ∷ [])) ≡ m * 2
count_cycles x m = ap count (cycles-pulses (suc x) m) ∙ count_again x (m * 2)

-- of an answer nothing is said
said_none : {s : List ℕ} {t u : Parsed} {said : Said} → said ≡ unsaid → Keeps s t u said → ⊥
said_none e (as_said q) = let z : ◌≡◌ {A = ℕ} 0 1 = cc in omega arith

sure_any : {K : Parsed → Type 0} → ((u : Parsed) → K u) → (o : Out) → Sure K o
sure_any h (on u) = sure (h u)
sure_any h (no k) = none

unsaid_differs : {s : List ℕ} {t : Parsed} {said : Said} → said ≡ unsaid → (o : Out) → Sure (λ u. Keeps s t u said → ⊥) o
unsaid_differs e o = sure_any (λ u. said_none e) o

-- two lists of lengths before one pause, of different numbers
counts_apart : (xs ys : List ℕ) (p : PulseLength) → (count xs ≡ count ys → ⊥)
    → lasting (lengths_of (record { pulses = xs; pause = p })) ≡ lasting (lengths_of (record { pulses = ys; pause = p })) → ⊥
unfolding lengths_of
counts_apart xs ys p h e =
    let a : length (long xs) + length (lasting (p ∷ [])) ≡ length (long ys) + length (lasting (p ∷ [])) =
    sym (length-append (long xs) (lasting (p ∷ [])))
    ∙ ap length (sym (lasting_append (map lasts xs) (p ∷ [])) ∙ e ∙ lasting_append (map lasts ys) (p ∷ []))
    ∙ length-append (long ys) (lasting (p ∷ [])) in
    h (omega arith)

-- a block that plays another number of lengths
add_differs : (lent : Lent) (origin : Origin) (s : List ℕ) (t : Parsed) (d : Sound) (bits : List ℕ) (p : PulseLength) (ys : List ℕ)
    {said : Said}
    → said ≡ sounds (record { pulses = ys; pause = p })
    → ((n : ℕ) → data_in s (row_of s origin d n) ≡ bits) → ((n : ℕ) → pause_in (row_of s origin d n) ≡ p)
    → (count (waves_of d.tones ++ bits) ≡ count ys → ⊥)
    → Sure (λ u. Keeps s t u said → ⊥) (add_sounds lent s origin (d ∷ []) t)
unfolding lengths_of block_lengths
add_differs lent origin s t d bits p ys said b q h =
    let xs = waves_of d.tones ++ bits in
    rw (one_sound lent s origin d t) (sure_also (λ u k m. counts_apart xs ys p h (keeps_once (record { pulses = ys; pause = p }) said k m))
    (sound_plays s origin d (map lasts xs ++ p ∷ [])
    (λ n.
    ap₂ (λ (a c : List PulseLength). a ++ c) (sym (long_append (waves_of d.tones) (data_in s (row_of s origin d n)))
    ∙ ap (λ (l : List ℕ). long (waves_of d.tones ++ l)) (b n)) (ap (λ (l : PulseLength). lasting (l ∷ [])) (q n))
    ∙ sym (lasting_append (map lasts xs) (p ∷ [])))
    lent t))

-- 12: pulses with length, none or one of them
tone_count : (x count' : ℕ) → count' ≤ 1
    → count (waves_of (pure_tone_tones (suc x) count') ++ []) ≡ count (again count' (suc x ∷ [])) → ⊥
unfolding pure_tone_tones waves_of each lasting
tone_count x zero l e = omega arith
tone_count x (suc zero) l e = omega arith
tone_count x (suc (suc n)) l e = omega arith

few : (x n : ℕ) → (eqb (suc x) 0 || ltb 1 n) ≡ false → n ≤ 1
few x n e = let l = ltb-false 1 n (neither (eqb (suc x) 0) (ltb 1 n) e).1 in omega arith

differs12 : (lent : Lent) (origin : Origin) (s : List ℕ) (t : Parsed) (half count' : ℕ) → kept12 half count' ≡ false
    → Sure (λ u. Keeps s t u (format12 half count') → ⊥) (add_sounds lent s origin (tone_sound (pure_tone_tones half count') ∷ []) t)
unfolding kept12 format12 row_of data_pulses each pause_in
differs12 lent origin s t zero count' e = absurd (differ e)
differs12 lent origin s t (suc x) count' e =
    let l : count' ≤ 1 = few x count' e in
    add_differs lent origin s t (tone_sound (pure_tone_tones (suc x) count')) [] (lasts 0) (again count' (suc x ∷ [])) refl
    (λ n. refl) (λ n. refl) (tone_count x count' l)

-- a pilot in front of two syncs and data: only the pilot's number tells
pilot_apart : (w v rest : List ℕ) → (count w ≡ count v → ⊥) → count (w ++ rest) ≡ count (v ++ rest) → ⊥
pilot_apart w v rest h e = h (omega (arith, count_append w rest, count_append v rest))

-- two tone rows, the second of one cycle, and data
pub two_rows : (num x a b : ℕ) (bits : List ℕ)
    → waves_of (plain_tone num x x ∷ plain_tone 1 a b ∷ []) ++ bits ≡ again (max 1 num) (x ∷ x ∷ []) ++ a ∷ b ∷ bits
unfolding waves_of
two_rows num x a b bits =
    ap (λ (l : List ℕ). (again (max 1 num) (x ∷ x ∷ []) ++ (l ++ [])) ++ bits) (once (a ∷ b ∷ []))
    ∙ append_assoc (again (max 1 num) (x ∷ x ∷ [])) (a ∷ b ∷ []) bits

-- 11: a pilot with length, none or odd in number
odd_count : (x n : ℕ) → even_count n ≡ false
    → count (again (max 1 ((n + 1) / 2)) (suc x ∷ suc x ∷ [])) ≡ count (again n (suc x ∷ [])) → ⊥
unfolding even_count
odd_count x n e q =
    let h : max 1 ((n + 1) / 2) * 2 ≡ n = sym (count_cycles x (max 1 ((n + 1) / 2))) ∙ q ∙ count_again x n in
    let l : 0 < n = omega arith in
    let z : n % 2 ≡ 0 = omega arith in
    differ (sym (rw (lt-ltb 0 n l, eq-eqb (n % 2) 0 z)) ∙ e)

turbo_count : (x : ℕ) (d : TurboData) (bits : List ℕ) → d.pilot ≡ suc x → even_count d.pilots ≡ false
    → count (waves_of (turbo_tones d) ++ bits) ≡ count (again d.pilots (d.pilot ∷ []) ++ d.sync1 ∷ d.sync2 ∷ bits) → ⊥
unfolding turbo_tones
turbo_count x d bits p e q =
    pilot_apart (again (max 1 ((d.pilots + 1) / 2)) (d.pilot ∷ d.pilot ∷ [])) (again d.pilots (d.pilot ∷ []))
    (d.sync1 ∷ d.sync2 ∷ bits)
    (rw p (odd_count x d.pilots e)) (ap count (sym (two_rows ((d.pilots + 1) / 2) d.pilot d.sync1 d.sync2 bits)) ∙ q)

odd_of : (a b c : Bool) → ((a || b) && c) ≡ false → c ≡ true → a ≡ false → b ≡ false
odd_of true b c e q z = cc
odd_of false true c e q z = sym q ∙ e
odd_of false false c e q z = refl

turbo_bits : (origin : Origin) (s : List ℕ) (d : TurboData) (n : ℕ) → bits_said d.last d.size ≡ true
    → data_in s (row_of s origin (turbo_sound d) n) ≡ data_pulses s d.zero d.one d.last d.from d.size
unfolding turbo_sound row_of
turbo_bits origin s d n b = data_same s d.zero d.one d.last d.from d.size b

differs11 : (lent : Lent) (origin : Origin) (s : List ℕ) (t : Parsed) (d : TurboData) → kept11 d ≡ false
    → Sure (λ u. Keeps s t u (format11 s d) → ⊥) (add_sounds lent s origin (turbo_sound d ∷ []) t)
unfolding kept11 format11 turbo_sound
differs11 lent origin s t d e = by_bits (bits_said d.last d.size) refl
  where
    bits : List ℕ
    bits = data_pulses s d.zero d.one d.last d.from d.size

    by_pilot : (x : ℕ) → d.pilot ≡ x → bits_said d.last d.size ≡ true
        → Sure (λ u. Keeps s t u
        (sounds (record { pulses = again d.pilots (d.pilot ∷ []) ++ d.sync1 ∷ d.sync2 ∷ bits; pause = pause_ms d.pause }))
        → ⊥) (add_sounds lent s origin (turbo_sound d ∷ []) t)
    by_pilot zero p b = absurd (differ (sym (rw (b, eq-eqb d.pilot 0 p)) ∙ e))
    by_pilot (suc x) p b =
        let z : eqb d.pilot 0 ≡ false = ne_eqb d.pilot 0 (omega arith) in
        let c : even_count d.pilots ≡ false = odd_of (eqb d.pilot 0) (even_count d.pilots) (bits_said d.last d.size) e b z in
        add_differs lent origin s t (turbo_sound d) bits (pause_ms d.pause)
        (again d.pilots (d.pilot ∷ []) ++ d.sync1 ∷ d.sync2 ∷ bits) refl
        (λ n. turbo_bits origin s d n b) (turbo_pause origin s d) (turbo_count x d bits p c)

    by_bits : (b : Bool) → bits_said d.last d.size ≡ b
        → Sure (λ u. Keeps s t u (b ⇒ sounds (record {
          pulses = again d.pilots (d.pilot ∷ []) ++ d.sync1 ∷ d.sync2 ∷ bits;
          pause = pause_ms d.pause;
        }) ∣ unsaid) → ⊥) (add_sounds lent s origin (turbo_sound d ∷ []) t)
    by_bits true b = by_pilot d.pilot refl b
    by_bits false b = unsaid_differs refl _

-- 14: nothing is said
differs14 : (s : List ℕ) (t : Parsed) (off one last pause from size : ℕ) → bits_said last size ≡ false → (o : Out)
    → Sure (λ u. Keeps s t u (format14 s off one last pause from size) → ⊥) o
unfolding format14
differs14 s t off one last pause from size e o = unsaid_differs (rw e) o

-- 2A: nothing is said
differs_2a : (s : List ℕ) (t : Parsed) (on48 : Bool) (length : ℕ) → eqb length 0 ≡ false → (o : Out)
    → Sure (λ u. Keeps s t u (format_2a on48 length) → ⊥) o
unfolding format_2a
differs_2a s t on48 length e o = unsaid_differs (rw e) o

-- 10: one pilot pulse more, whatever the flag
standard_count : (b : Bool) (bits : List ℕ)
    → count (waves_of (standard_tones b) ++ bits) ≡ count (again (b ⇒ 8063 ∣ 3223) (2168 ∷ []) ++ 667 ∷ 735 ∷ bits) → ⊥
unfolding standard_tones standard_cycles
standard_count true bits q =
    pilot_apart (again 4032 (2168 ∷ 2168 ∷ [])) (again 8063 (2168 ∷ [])) (667 ∷ 735 ∷ bits)
    (λ e. let a = count_cycles 2167 4032 in let b = count_again 2167 8063 in omega arith)
    (ap count (sym (two_rows 4032 2168 667 735 bits)) ∙ q)
standard_count false bits q =
    pilot_apart (again 1612 (2168 ∷ 2168 ∷ [])) (again 3223 (2168 ∷ [])) (667 ∷ 735 ∷ bits)
    (λ e. let a = count_cycles 2167 1612 in let b = count_again 2167 3223 in omega arith)
    (ap count (sym (two_rows 1612 2168 667 735 bits)) ∙ q)

pub standard_bits : (origin : Origin) (s : List ℕ) (b : Bool) (from size pause n : ℕ)
    → data_in s (row_of s origin (standard_sound b from size pause) n) ≡ data_pulses s 855 1710 8 from size
unfolding standard_sound row_of
standard_bits origin s b from size pause n = refl

pub standard_pause_lem : (origin : Origin) (s : List ℕ) (b : Bool) (from size pause n : ℕ)
    → pause_in (row_of s origin (standard_sound b from size pause) n) ≡ lasts pause
unfolding standard_sound row_of pause_in
standard_pause_lem origin s b from size pause n = refl

differs10 : (lent : Lent) (origin : Origin) (s : List ℕ) (t : Parsed) (pause from size : ℕ)
    → Sure (λ u. Keeps s t u (format10 s pause from size) → ⊥)
    (add_sounds lent s origin (standard_sound (standard_header s from size) from size (ms pause) ∷ []) t)
unfolding standard_sound format10 standard_header pilot_count
differs10 lent origin s t pause from size = by_size (eqb size 0)
  where
    bits : List ℕ
    bits = data_pulses s 855 1710 8 from size

    flag : Bool
    flag = ltb (get_or s from 0) 128

    by_size : (b : Bool)
        → Sure (λ u. Keeps s t u (b ⇒ unsaid ∣ sounds (record {
          pulses = again (flag ⇒ 8063 ∣ 3223) (2168 ∷ []) ++ 667 ∷ 735 ∷ bits;
          pause = pause_ms pause;
        })) → ⊥) (add_sounds lent s origin (standard_sound (b || flag) from size (ms pause) ∷ []) t)
    by_size true = unsaid_differs refl _
    by_size false =
        add_differs lent origin s t (standard_sound flag from size (ms pause)) bits (pause_ms pause)
        (again (flag ⇒ 8063 ∣ 3223) (2168 ∷ []) ++ 667 ∷ 735 ∷ bits) refl
        (standard_bits origin s flag from size (ms pause)) (standard_pause_lem origin s flag from size (ms pause)) (standard_count flag bits)

one_heard : (v : ℕ) → (v ≡ 0 → ⊥) → count (v ∷ []) ≡ 1
unfolding lasting
one_heard zero h = absurd (h refl)
one_heard (suc v) h = refl

-- 13: an odd last pulse with length
odd_last : (s : List ℕ) (count' from : ℕ) → kept13 s count' from ≡ false
    → long (each (pulse_in s from) 0 (count' / 2 * 2)) ≡ long (each (pulse_in s from) 0 count') → ⊥
unfolding kept13
odd_last s count' from e q =
    let f = pulse_in s from in
    let v = le_at s (from + (count' - 1) * 2) 2 in
    let b = neither (eqb (count' % 2) 0) (eqb v 0) e in
    let odd = eqb-false (count' % 2) 0 b.0 in
    let m = count' / 2 * 2 in
    let k : count' ≡ m + 1 = omega arith in
    let l : count' - 1 ≡ 0 + m = omega arith in
    let w : f (0 + m) ≡ v ∷ [] = ap f (sym l) in
    let c : count (each f 0 count') ≡ count (each f 0 m) + count (v ∷ []) =
    ap (λ (n : ℕ). count (each f 0 n)) k ∙ ap count (each_split f 0 m 1) ∙ count_append (each f 0 m) (each f (0 + m) 1)
    ∙ ap (λ (x : List ℕ). count (each f 0 m) + count x) (single f (0 + m) ∙ w) in
    let d : count (v ∷ []) ≡ 1 = one_heard v (eqb-false v 0 b.1) in
    let n : count (each f 0 m) ≡ count (each f 0 count') = ap length q in
    omega arith

differs13 : (lent : Lent) (origin : Origin) (s : List ℕ) (t : Parsed) (count' from : ℕ) → kept13 s count' from ≡ false
    → Sure (λ u. Keeps s t u (format13 s count' from) → ⊥) (add_sounds lent s origin (pair_sounds s from 0 (count' / 2)) t)
unfolding format13
differs13 lent origin s t count' from e =
    sure_also
    (λ u p k. odd_last s count' from e (keeps_once (record { pulses = each (pulse_in s from) 0 count'; pause = lasts 0 }) refl p k
    ∙ no_pause (each (pulse_in s from) 0 count')))
    (pairs_play lent origin s from 0 (count' / 2) t)

-- THE CONVERSE: where `kept` is false, no block list that the piece adds plays what the format says
pub unkept_differs : (lent : Lent) (origin : Origin) (s : List ℕ) (model : ℕ) (piece : Piece) (t : Parsed) → exact_kind piece ≡ true
    → kept s piece ≡ false
    → Sure (λ u. Keeps s t u (format_of (eqb model 0) s piece) → ⊥) (act lent s model origin piece t)
unfolding exact_kind kept format_of act deed_of does
unkept_differs lent origin s model (Standard pause from size) t k e = differs10 lent origin s t pause from size
unkept_differs lent origin s model (Turbo d) t k e = differs11 lent origin s t d e
unkept_differs lent origin s model (PureTone half count') t k e = differs12 lent origin s t half count' e
unkept_differs lent origin s model (Pulses count' from) t k e = differs13 lent origin s t count' from e
unkept_differs lent origin s model (Pure off one last pause from size) t k e = differs14 s t off one last pause from size e _
unkept_differs lent origin s model (Generalized g) t k e = absurd (differ (sym k))
unkept_differs lent origin s model (Pause n) t k e = absurd (differ e)
unkept_differs lent origin s model (GroupStart from size) t k e = absurd (differ e)
unkept_differs lent origin s model GroupEnd t k e = absurd (differ (sym k))
unkept_differs lent origin s model (LoopStart times) t k e = unsaid_differs (rw e) _
unkept_differs lent origin s model LoopEnd t k e = absurd (differ (sym k))
unkept_differs lent origin s model (Stop48 length) t k e = differs_2a s t (eqb model 0) length e _
unkept_differs lent origin s model (Text from size) t k e = absurd (differ e)
unkept_differs lent origin s model Message t k e = absurd (differ e)
unkept_differs lent origin s model Archive t k e = absurd (differ e)
unkept_differs lent origin s model Hardware t k e = absurd (differ e)
unkept_differs lent origin s model Custom t k e = absurd (differ e)
unkept_differs lent origin s model Glue t k e = absurd (differ e)
