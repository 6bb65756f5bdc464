-- THE SAME PIECE: where a kept piece was cut with an alphabet size of 0 meaning 255, and a 19's length unused, the format, where it means
-- 256 and a 19 ends with its length, cuts one there that ends where it ends and says the same. Assumes nothing.
use Prim.Native.Nat.{ℕ, ◌+◌, ◌*◌, ◌-◌, ◌/◌, ◌≤◌, ◌<◌}
use native.Mathlib.Omega.{arith}
use mathlib.Core.Path.{◌≡◌, refl, sym, ap, subst, ◌∙◌}
use mathlib.Core.Bool.{Bool, true, false, ◌&&◌, not}
use mathlib.Core.List.{List, ◌++◌}
use lib.ListN.{length, get_or}
use lib.Dec.{ltb, eqb}
use borrow.Author.Tests.{eqb-true, lt-leb}
use Rattle.std.specs.Prelude.{Ok}
use Rattle.law_base.specs.Rules.{◌⇒◌, ◌∣◌}
use Rattle.law_base.proofs.Tests.{first, second, other}
use Rattle.cut_fields.specs.Field.{Cursor, place_of}
use Rattle.cut_fields.specs.Run.{each_at, groups_at}
use Rattle.cut_fields.proofs.Runs.{each_stood, groups_stood}
use Rattle.cut_grammar.specs.declared.GeneralizedData.{GeneralizedData}
use Rattle.cut_grammar.specs.declared.Piece.{Piece}
use Rattle.cut_grammar.specs.declared.Piece.TheVariants.{Generalized}
use Rattle.cut_grammar.specs.declared.Taken.TheVariants as taken
use Rattle.cut_grammar.specs.Grammar.{Body, whole_body, Layout, pass_at, whole_at, fitting_at, read_at, bits_of, or_full, held_if}
use Rattle.cut_grammar.specs.Kinds.{stream19, kind19, kinds, kind_of}
use Rattle.cut_grammar.specs.Cut.{taken_as, cut_at}
use Rattle.cut_grammar.specs.Steps.{Head19, head19}
use Rattle.cut_grammar.proofs.Cutting.{cut_there, cut_inside, cut_forward}
use Rattle.cut_grammar.proofs.Others.{unnamed}
use Rattle.cut_grammar.proofs.Places.{cut_places}
use Rattle.load_state.specs.Parser.{Parsed}
use Rattle.load_state.specs.Kept.{Sure}
use Rattle.load_blocks.specs.declared.Origin.{Origin}
use Rattle.load_blocks.specs.Adds.{Lent}
use Rattle.load_source.specs.Source.{act}
use Rattle.law_tzx.specs.Format.{Said, unsaid, said_pulses, pause_ms, each, pilot_symbol, repetitions, pilot_pulses, data_number}
use Rattle.law_tzx.specs.Format.{symbol_pulses, every, symbols_said, format19, format_of, format_full}
use Rattle.law_tzx.specs.Cut.{layout19, layout_of, format_cut}
use Rattle.law_tzx.specs.Kept.{kept_pilot, kept_data, length_right, kept19, kept, Keeps, Tables, FormatCut, KeptAt}
use Rattle.law_tzx.proofs.Waves.{differ}
use Rattle.law_tzx.proofs.Symbols.{not_so}
use Rattle.law_tzx.proofs.Keeps.{keeps}
use Rattle.law_tzx.proofs.CutFields.{head_placed, fitted}
use Rattle.law_tzx.proofs.Within.{within-length}

-- 19 from its tables on
module _ (s : List ℕ) (h : Head19) (asd : ℕ) where
  abbrev bits_in : ℕ
  bits_in = bits_of (asd - 1)

  abbrev size_in : ℕ
  size_in = (bits_in * h.head.totd + 7) / 8

  -- the cursor at the entries, at the data's symbols and at its bytes, with so many pilot symbols
  abbrev entries_at : ℕ → Cursor
  entries_at n = groups_at s h.cursor n 1 h.head.npp 2

  abbrev symbols_at : ℕ → Cursor
  symbols_at n = groups_at s (entries_at n) h.head.totp 1 1 2

  abbrev bytes_at : ℕ → Cursor
  bytes_at n = groups_at s (symbols_at n) (held_if h.head.totd asd) 1 h.head.npd 2

  abbrev general_with : ℕ → ℕ → GeneralizedData
  general_with asp n =
      record {
        length = h.head.length;
        pause = h.head.pause;
        totp = h.head.totp;
        npp = h.head.npp;
        asp0 = h.head.asp;
        asp = asp;
        pilot = place_of h.cursor;
        entries = place_of (entries_at n);
        totd = h.head.totd;
        npd = h.head.npd;
        asd0 = h.head.asd;
        asd = asd;
        nb = bits_in;
        symbols = place_of (symbols_at n);
        from = place_of (bytes_at n);
        size = size_in;
      }

  unfoldable body_with : ℕ → ℕ → Body
  body_with asp n =
      fitting_at (bits_in * h.head.totd) (bytes_at n) (whole_at (Generalized (general_with asp n)) (each_at s (bytes_at n) size_in 1))

  -- where it is whole, the tables begin at a place, and the last of them ends with the piece
  record Placed (n next : ℕ) : Type 0 where
    began : h.cursor ≡ Ok (place_of h.cursor)
    onward : place_of h.cursor ≤ next
    ended : next ≡ place_of (bytes_at n) + size_in

  placed : (asp n : ℕ) {next : ℕ} {piece : Piece} → body_with asp n ≡ whole_body piece next → Placed n next
  unfolding body_with
  placed asp n {next} {piece} e =
      let f = fitted (Generalized (general_with asp n)) piece (bits_in * h.head.totd) (bytes_at n) (each_at s (bytes_at n) size_in 1) next e in
      let d5 = each_stood s size_in 1 (bytes_at n) f.stood in
      let d4 = groups_stood s (held_if h.head.totd asd) 1 h.head.npd 2 (symbols_at n) d5.began in
      let d3 = groups_stood s h.head.totp 1 1 2 (entries_at n) d4.began in
      let d2 = groups_stood s n 1 h.head.npp 2 h.cursor d3.began in
      let m5 = d5.moved in
      let m4 = d4.moved in
      let m3 = d3.moved in
      let m2 = d2.moved in
      record { began = d2.began; onward = omega arith; ended = omega arith }

  is_piece : (asp n : ℕ) {next : ℕ} {piece : Piece} → body_with asp n ≡ whole_body piece next
      → Generalized (general_with asp n) ≡ piece
  unfolding body_with
  is_piece asp n {next} {piece} e =
      (fitted (Generalized (general_with asp n)) piece (bits_in * h.head.totd) (bytes_at n) (each_at s (bytes_at n) size_in 1) next e).same

  any_asp : (asp n b : ℕ) {next : ℕ} {piece : Piece} → body_with asp n ≡ whole_body piece next
      → body_with b n ≡ whole_body (Generalized (general_with b n)) next
  unfolding body_with
  any_asp asp n b {next} {piece} e =
      (fitted (Generalized (general_with asp n)) piece (bits_in * h.head.totd) (bytes_at n) (each_at s (bytes_at n) size_in 1) next e
      ).any (Generalized (general_with b n))

-- a 19 is its head and its tables
general_body : (full : ℕ) (s : List ℕ) (c : Cursor)
    → (let h = head19 s c in
    read_at (kind19 full) s c
    ≡ body_with s h (or_full full h.head.asd) (or_full full h.head.asp) (held_if h.head.totp (or_full full h.head.asp)))
unfolding read_at kind19 stream19 pass_at head19 body_with
general_body full s c = refl

-- an alphabet's size that isn't 0 means the same to both
full-same : (a : ℕ) → eqb a 0 ≡ false → or_full 255 a ≡ or_full format_full a
unfolding or_full
full-same a e = rw e

full-none : (a : ℕ) → or_full 255 a ≡ 2 → eqb a 0 ≡ false
unfolding or_full
full-none a e = by_cases (eqb a 0) refl e
  where
    by_cases : (b : Bool) → eqb a 0 ≡ b → (b ⇒ 255 ∣ a) ≡ 2 → eqb a 0 ≡ false
    by_cases true q z = absurd (omega arith)
    by_cases false q z = q

held_none : (totp asp : ℕ) → totp ≡ 0 → held_if totp asp ≡ 0
unfolding held_if
held_none totp asp e = rw e

kept_asd : (s : List ℕ) (g : GeneralizedData) → kept19 s g ≡ true → g.asd ≡ 2
unfolding kept19 kept_data
kept_asd s g e =
    let c = second (ltb 0 g.totd) _ (second (kept_pilot s g) _ (second (length_right g) _ e)) in
    eqb-true g.asd 2 (first (eqb g.asd 2) _ c)

kept_asp : (s : List ℕ) (g : GeneralizedData) → kept19 s g ≡ true → eqb g.totp 0 ≡ false → eqb g.asp0 0 ≡ false
unfolding kept19 kept_pilot
kept_asp s g e q =
    let c = other (eqb g.totp 0) _ (first _ (kept_data s g) (second (length_right g) _ e)) q in
    not_so (eqb g.asp0 0) (first (not (eqb g.asp0 0)) _ c)

kept-length : (s : List ℕ) (g : GeneralizedData) → kept19 s g ≡ true → g.length ≡ 14 + (g.from + g.size - g.pilot)
unfolding kept19
kept-length s g e = let l = eqb-true g.length _ (first _ (kept_pilot s g && kept_data s g) e) in omega arith

none_said : (f : ℕ → Bool) (n : ℕ) → n ≡ 0 → every f 0 n ≡ true
unfolding every
none_said f n e = ap (every f 0) e

-- without a pilot part its alphabet's size tells nothing
asp_unsaid : (s : List ℕ) (h : Head19) (asd a b n : ℕ) → h.head.totp ≡ 0
    → format19 s (general_with s h asd b n) ≡ format19 s (general_with s h asd a n)
unfolding format19 symbols_said pilot_pulses pilot_symbol repetitions symbol_pulses data_number
asp_unsaid s h asd a b n e =
    let g = general_with s h asd a n in
    ap (λ (t : Bool). (t && every (λ i. ltb (data_number s g i) asd) 0 h.head.totd) ⇒
    said_pulses (each (pilot_pulses s g) 0 h.head.totp ++ each (symbol_pulses s g) 0 h.head.totd) (pause_ms h.head.pause) ∣ unsaid)
    (none_said (λ i. ltb (pilot_symbol s g i) b) h.head.totp e ∙ sym (none_said (λ i. ltb (pilot_symbol s g i) a) h.head.totp e))

-- what the format cuts there
pub record Same (s : List ℕ) (b : Body) (piece : Piece) (next : ℕ) : Type 0 where
  pub other : Piece
  pub whole : b ≡ whole_body other next
  pub said : (on48 : Bool) → format_of on48 s other ≡ format_of on48 s piece

module _ (s : List ℕ) (p : ℕ) {piece : Piece} {next : ℕ} (inside : next ≤ length s)
    (e : read_at (kind19 255) s (Ok p) ≡ whole_body piece next) (k : kept s piece ≡ true) where
  abbrev h : Head19
  h = head19 s (Ok p)

  abbrev held_by : ℕ → ℕ
  held_by format_full = held_if h.head.totp (or_full format_full h.head.asp)

  abbrev asp255 : ℕ
  asp255 = or_full 255 h.head.asp

  abbrev asd255 : ℕ
  asd255 = or_full 255 h.head.asd

  -- the source reading's body, and its piece
  read255 : body_with s h asd255 asp255 (held_by 255) ≡ whole_body piece next
  read255 = sym (general_body 255 s (Ok p)) ∙ e

  piece255 : Generalized (general_with s h asd255 asp255 (held_by 255)) ≡ piece
  piece255 = is_piece s h asd255 asp255 (held_by 255) read255

  kept255 : kept19 s (general_with s h asd255 asp255 (held_by 255)) ≡ true
  unfolding kept
  kept255 = ap (kept s) piece255 ∙ k

  -- the data's alphabet is of two symbols
  asd_same : asd255 ≡ or_full format_full h.head.asd
  asd_same = full-same h.head.asd (full-none h.head.asd (kept_asd s (general_with s h asd255 asp255 (held_by 255)) kept255))

  read256 : read_at (kind19 format_full) s (Ok p) ≡ body_with s h asd255 (or_full format_full h.head.asp) (held_by format_full)
  read256 =
      general_body format_full s (Ok p) ∙ ap (λ (x : ℕ). body_with s h x (or_full format_full h.head.asp) (held_by format_full)) (sym asd_same)

  abbrev asp256 : ℕ
  asp256 = or_full format_full h.head.asp

  -- with another size of a pilot alphabet that nothing uses
  whole256 : body_with s h asd255 asp256 (held_by 255) ≡ whole_body (Generalized (general_with s h asd255 asp256 (held_by 255))) next
  whole256 = any_asp s h asd255 asp255 (held_by 255) asp256 read255

  said256 : h.head.totp ≡ 0 → (on48 : Bool)
      → format_of on48 s (Generalized (general_with s h asd255 asp256 (held_by 255))) ≡ format_of on48 s piece
  unfolding format_of
  said256 t on48 = asp_unsaid s h asd255 asp255 asp256 (held_by 255) t ∙ ap (format_of on48 s) piece255

  general_same : Same s (read_at (kind19 format_full) s (Ok p)) piece next
  general_same = by_asp (eqb h.head.asp 0) refl
    where
      by_totp : (b : Bool) → eqb h.head.totp 0 ≡ b → eqb h.head.asp 0 ≡ true → Same s (read_at (kind19 format_full) s (Ok p)) piece next
      by_totp true q z =
          let t : h.head.totp ≡ 0 = eqb-true h.head.totp 0 q in
          let n : held_by format_full ≡ held_by 255 = held_none h.head.totp asp256 t ∙ sym (held_none h.head.totp asp255 t) in
          record {
            other = Generalized (general_with s h asd255 asp256 (held_by 255));
            whole = read256 ∙ ap (body_with s h asd255 asp256) n ∙ whole256;
            said = said256 t;
          }
      by_totp false q z = absurd (differ (sym z ∙ kept_asp s (general_with s h asd255 asp255 (held_by 255)) kept255 q))

      by_asp : (b : Bool) → eqb h.head.asp 0 ≡ b → Same s (read_at (kind19 format_full) s (Ok p)) piece next
      by_asp true z = by_totp (eqb h.head.totp 0) refl z
      by_asp false z =
          let a : asp255 ≡ or_full format_full h.head.asp = full-same h.head.asp z in
          record {
            other = piece;
            whole = read256 ∙ ap (λ (x : ℕ). body_with s h asd255 x (held_if h.head.totp x)) (sym a) ∙ read255;
            said = λ on48. refl;
          }

  -- the piece ends where its length says
  ends_there : p + 4 + h.head.length ≡ next
  ends_there =
      let d = placed s h asd255 asp255 (held_by 255) read255 in
      let t = (head_placed s p d.began).tables in
      let l : h.head.length ≡ 14 + (place_of (bytes_at s h asd255 (held_by 255)) + size_in s h asd255 - place_of h.cursor) =
      kept-length s (general_with s h asd255 asp255 (held_by 255)) kept255 in
      let o = d.onward in
      let n = d.ended in
      omega arith

  length-same : Same s (read_at layout19 s (Ok p)) piece next
  length-same =
      let g = general_same in
      let d = placed s h asd255 asp255 (held_by 255) read255 in
      let f = (head_placed s p d.began).length in
      record { other = g.other; whole = within-length s p inside f ends_there g.whole; said = g.said }

-- of all kinds, 19 alone has an alphabet
kinds-same : (kind : ℕ) → eqb kind 0x19 ≡ false → kind_of 255 kind ≡ kind_of format_full kind
unfolding kind_of kinds
kinds-same kind e = rw e

kinds_general : (full kind : ℕ) → kind ≡ 0x19 → kind_of full kind ≡ kind19 full
unfolding kind_of kinds
kinds_general full kind e = rw e

body_same : (s : List ℕ) (kind p : ℕ) {piece : Piece} {next : ℕ} → next ≤ length s
    → read_at (kind_of 255 kind) s (Ok p) ≡ whole_body piece next → kept s piece ≡ true
    → Same s (read_at (layout_of kind) s (Ok p)) piece next
body_same s kind p {piece} {next} i e k = by_cases (eqb kind 0x19) refl
  where
    by_cases : (b : Bool) → eqb kind 0x19 ≡ b → Same s (read_at (b ⇒ layout19 ∣ kind_of format_full kind) s (Ok p)) piece next
    by_cases true q =
        let g = eqb-true kind 0x19 q in
        length-same s p i (ap (λ (l : Layout). read_at l s (Ok p)) (sym (kinds_general 255 kind g)) ∙ e) k
    by_cases false q =
        record { other = piece; whole = ap (λ (l : Layout). read_at l s (Ok p)) (sym (kinds-same kind q)) ∙ e; said = λ on48. refl }

format_there : (s : List ℕ) (at : ℕ) → at < length s
    → format_cut s at ≡ taken_as (get_or s at 0) at (read_at (layout_of (get_or s at 0)) s (Ok (at + 1)))
format_there s at h = rw (lt-leb (length s) at h)

-- THE FORMAT'S OWN CUT of a kept piece
pub kept_cut : (s : List ℕ) (at : ℕ) {k a next : ℕ} {piece : Piece} → cut_at s at 255 ≡ taken.Whole k a next piece
    → kept s piece ≡ true → FormatCut s at next piece
unfolding taken_as
kept_cut s at e kept =
    let h = cut_inside s at 255 e in
    let i = (cut_forward s at 255 e).1 in
    let r = body_same s (get_or s at 0) (at + 1) i (unnamed (get_or s at 0) at _ (sym (cut_there s at 255 h) ∙ e)) kept in
    record { other = r.other; cut = format_there s at h ∙ ap (taken_as (get_or s at 0) at) r.whole; said = r.said }

-- KEEPS, for a piece of a tape
pub cut_keeps : (lent : Lent) (origin : Origin) (s : List ℕ) (model at : ℕ) (t : Parsed) {k a next : ℕ} {piece : Piece}
    → cut_at s at 255 ≡ taken.Whole k a next piece → kept s piece ≡ true → KeptAt lent origin s model at next piece t
cut_keeps lent origin s model at t {k} {a} {next} {piece} cut e =
    let c = kept_cut s at cut e in
    let tables : Tables s piece = λ g q. (cut_places s at 255 (cut ∙ ap (λ (x : Piece). taken.Whole k a next x) q)).places in
    record {
      other = c.other;
      cut = c.cut;
      plays = subst (λ (x : Said). Sure (λ u. Keeps s t u x) (act lent s model origin piece t)) (sym (c.said (eqb model 0)))
          (keeps lent origin s model piece t tables e);
    }
