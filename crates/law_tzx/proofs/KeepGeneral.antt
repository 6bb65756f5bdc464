-- KEEPS, 19: ordinary data behind a pilot, or tones alone. Assumes nothing but that its tables are where its numbers say.
use Prim.Native.Nat.{ℕ, max}
use mathlib.Core.Path.{◌≡◌, refl, sym, ap, ap₂, ◌∙◌}
use mathlib.Core.Bool.{Bool, true, false, ◌&&◌}
use mathlib.Core.List.{List, [], ◌∷◌, ◌++◌, append_assoc, append-nil}
use lib.Dec.{ltb}
use borrow.Author.Tests.{lt-ltb}
use Rattle.law_base.specs.Rules.{◌⇒◌, ◌∣◌}
use Rattle.law_base.proofs.Tests.{first, second}
use Rattle.rows.specs.declared.Tone.{Tone}
use Rattle.cut_grammar.specs.declared.GeneralizedData.{GeneralizedData}
use Rattle.cut_grammar.specs.Places.{Places}
use Rattle.load_general.specs.General.{Symbol, symbol_at, plain, toned, pilot_of, ordinary, used_bits, data_part, with_pilot}
use Rattle.load_general.specs.General.{with_data, general_of}
use Rattle.load_state.specs.Parser.{Parsed}
use Rattle.load_state.specs.Kept.{Sure}
use Rattle.load_blocks.specs.declared.Origin.{Origin}
use Rattle.load_blocks.specs.declared.Bits.{Bits}
use Rattle.load_blocks.specs.Sounds.{ms, Sound, data_bits, no_bits, row_of}
use Rattle.load_blocks.specs.Blocks.{data_sound}
use Rattle.load_blocks.specs.Adds.{Lent}
use Rattle.load_blocks.specs.Deeds.{general_deed, does}
use Rattle.law_tzx.specs.Format.{PulseLength, lasts, PulseTrain, sounds, pause_ms, each, data_pulses, pilot_pulses, symbol_pulses}
use Rattle.law_tzx.specs.Format.{symbols_said, format19}
use Rattle.law_tzx.specs.Kept.{kept_pilot, kept_data, length_right, kept19, Keeps}
use Rattle.law_tzx.proofs.Lengths.{long, long_append, wave_in, waves_of, data_in, pause_in}
use Rattle.law_tzx.proofs.Symbols.{Parts}
use Rattle.law_tzx.proofs.Generals.{pilot_part, pilot_said, DataClauses, data_clauses, data_said, data_part_lem, plain-heard}
use Rattle.law_tzx.proofs.KeepSounds.{sound_with, keep_one}

-- 19: ordinary data behind a pilot
abbrev plain_birth : GeneralizedData → List Tone → ℕ → ℕ → ℕ → Sound
plain_birth g ts off one last = data_sound ts (data_bits g.from g.size off one last) (ms g.pause)

-- or tones alone
abbrev toned_birth : GeneralizedData → List Tone → Sound
toned_birth g ts = data_sound ts no_bits (ms g.pause)

born_pause : (origin : Origin) (s : List ℕ) (ts : List Tone) (d : Bits) (pause n : ℕ)
    → pause_in (row_of s origin (data_sound ts d pause) n) ≡ lasts pause
unfolding row_of pause_in
born_pause origin s ts d pause n = refl

waves_append : (ps ts : List Tone) → waves_of (ps ++ ts) ≡ waves_of ps ++ waves_of ts
unfolding waves_of
waves_append [] ts = refl
waves_append (p ∷ ps) ts =
    ap (λ (r : List ℕ). wave_in p ++ r) (waves_append ps ts) ∙ sym (append_assoc (wave_in p) (waves_of ps) (waves_of ts))

-- two parts, each heard as it should be
both : (a b x y : List ℕ) → long a ≡ long x → long b ≡ long y → long (a ++ b) ≡ long (x ++ y)
both a b x y p q = long_append a b ∙ ap₂ (λ (c d : List PulseLength). c ++ d) p q ∙ sym (long_append x y)

toned-same : (origin : Origin) (s : List ℕ) (g : GeneralizedData) (ps ts : List Tone) (x y : List ℕ) (n : ℕ)
    → long (waves_of ps) ≡ long x → long (waves_of ts) ≡ long y
    → long (waves_of (ps ++ ts) ++ data_in s (row_of s origin (toned_birth g (ps ++ ts)) n)) ≡ long (x ++ y)
unfolding row_of data_pulses each
toned-same origin s g ps ts x y n p q =
    ap long (append-nil (waves_of (ps ++ ts)) ∙ waves_append ps ts) ∙ both (waves_of ps) (waves_of ts) x y p q

plain-same : (origin : Origin) (s : List ℕ) (g : GeneralizedData) (ps : List Tone) (off one last : ℕ) (x y : List ℕ) (n : ℕ)
    → long (waves_of ps) ≡ long x
    → long (data_pulses s off one (max 1 last) g.from g.size) ≡ long y
    → long (waves_of ps ++ data_in s (row_of s origin (plain_birth g ps off one last) n)) ≡ long (x ++ y)
unfolding row_of
plain-same origin s g ps off one last x y n p q = both (waves_of ps) (data_pulses s off one (max 1 last) g.from g.size) x y p q

module _ (lent : Lent) (origin : Origin) (s : List ℕ) (model : ℕ) (t : Parsed) (g : GeneralizedData) where
  abbrev pilot_in : List ℕ
  pilot_in = each (pilot_pulses s g) 0 g.totp

  abbrev symbols_in : List ℕ
  symbols_in = each (symbol_pulses s g) 0 g.totd

  abbrev sound19 : PulseTrain
  sound19 = sound_with (pilot_in ++ symbols_in) (pause_ms g.pause)

  keep_toned : (ps ts : List Tone) → long (waves_of ps) ≡ long pilot_in → long (waves_of ts) ≡ long symbols_in
      → Sure (λ u. Keeps s t u (sounds sound19)) (does lent s model origin (general_deed g (toned (ps ++ ts))) t)
  unfolding does general_deed
  keep_toned ps ts p q =
      keep_one lent origin s t (toned_birth g (ps ++ ts)) sound19
      (λ n. toned-same origin s g ps ts pilot_in symbols_in n p q) (born_pause origin s (ps ++ ts) no_bits (ms g.pause))

  keep_plain : (ps : List Tone) (off one last : ℕ) → long (waves_of ps) ≡ long pilot_in
      → long (data_pulses s off one (max 1 last) g.from g.size) ≡ long symbols_in
      → Sure (λ u. Keeps s t u (sounds sound19)) (does lent s model origin (general_deed g (plain ps off one last)) t)
  unfolding does general_deed
  keep_plain ps off one last p q =
      keep_one lent origin s t (plain_birth g ps off one last) sound19
      (λ n. plain-same origin s g ps off one last pilot_in symbols_in n p q)
      (born_pause origin s ps (data_bits g.from g.size off one last) (ms g.pause))

  keep_general : Places s g → kept19 s g ≡ true
      → Sure (λ u. Keeps s t u (sounds sound19)) (does lent s model origin (general_deed g (general_of s g)) t)
  unfolding kept19 general_of with_pilot with_data
  keep_general places e =
      let k = second (length_right g) (kept_pilot s g && kept_data s g) e in
      let p = pilot_part s g (first (kept_pilot s g) (kept_data s g) k) in
      let d = data_clauses s g places (second (kept_pilot s g) (kept_data s g) k) in
      rw p.given (by_cases p d (ordinary s g) refl)
    where
      y : Symbol
      y = symbol_at s g.symbols 2 0

      z : Symbol
      z = symbol_at s g.symbols 2 1

      by_cases : (p : Parts (pilot_of s g) pilot_in) (d : DataClauses s g) (b : Bool) → ordinary s g ≡ b
          → Sure (λ u. Keeps s t u (sounds sound19)) (does lent s model origin (general_deed g ((ltb 0 g.totd && ordinary s g)
          ⇒ plain p.rows y.first z.first (used_bits g.totd) ∣ with_data p.rows (data_part s g))) t)
      by_cases p d true q = rw (lt-ltb 0 g.totd d.some, q)
          (keep_plain p.rows y.first z.first (used_bits g.totd) p.heard (plain-heard s g d q))
      by_cases p d false q =
          let r = data_part_lem s g d in
          rw (lt-ltb 0 g.totd d.some, q, r.given) (keep_toned p.rows r.rows p.heard r.heard)

  pub keep19 : Places s g → kept19 s g ≡ true
      → Sure (λ u. Keeps s t u (format19 s g)) (does lent s model origin (general_deed g (general_of s g)) t)
  unfolding kept19 format19 symbols_said
  keep19 places e =
      let k = second (length_right g) (kept_pilot s g && kept_data s g) e in
      let pilot = pilot_said s g (first (kept_pilot s g) (kept_data s g) k) in
      let symbols = data_said s g (data_clauses s g places (second (kept_pilot s g) (kept_data s g) k)) in
      rw (pilot, symbols) (keep_general places e)
