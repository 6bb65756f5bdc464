-- REFUSAL 4 BEFORE THE DATA BYTES, EXACTLY (rule 80): a 19 overflows where, and only where, it is there whole up to and with its data
-- alphabet and its data bits don't fit 32 bits; no other kind does. Assumes nothing.
use Prim.Native.Nat.{ℕ, zero, suc, ◌+◌, ◌*◌, ◌-◌, ◌/◌, ◌^◌, ◌≤◌, ◌<◌}
use native.Mathlib.Omega.{arith}
use native.Mathlib.Nat.{le_refl, pow-suc, mul-zero}
use borrow.Author.Tests.{eqb-true, eqb-false, eq-eqb, le-leb, leb-false, lt-leb}
use mathlib.Core.Path.{◌≡◌, refl, sym, ap, ◌∙◌}
use mathlib.Core.Bool.{Bool, true, false}
use mathlib.Core.Logic.{◌↔◌, ⊎_elim}
use mathlib.Core.List.{List, [], ◌∷◌}
use lib.ListN.{length, get_or, take}
use lib.Dec.{leb, eqb}
use Rattle.law_base.proofs.Numbers.{lt_or_ge}
use Rattle.law_base.specs.Rules.{◌⇒◌, ◌∣◌}
use Rattle.std.specs.Prelude.{Ok, Err}
use Rattle.cut_fields.specs.Field.{Cursor, came_short, Read, le_at, number_at, field_at, place_of}
use Rattle.cut_fields.specs.Run.{groups_at, Wholes}
use Rattle.cut_fields.proofs.Runs.{field_there, field_short, groups_all, groups_stood}
use Rattle.cut_grammar.specs.declared.GeneralizedData.{GeneralizedData}
use Rattle.cut_grammar.specs.declared.Piece.{Piece}
use Rattle.cut_grammar.specs.declared.Piece.TheVariants as piece
use Rattle.cut_grammar.specs.declared.Whole.{Whole}
use Rattle.cut_grammar.specs.declared.NotCut.TheVariants.{Unknown, Short, Overflow}
use Rattle.cut_grammar.specs.declared.Taken.TheVariants as taken
use Rattle.cut_grammar.specs.Grammar.{Body, whole_body}
use Rattle.cut_grammar.specs.Grammar.{Layout, number, counted, here, pass, within, fitting, whole, unknown, fields, groups, counted_at}
use Rattle.cut_grammar.specs.Grammar.{pass_at, whole_at, sealed, enclosed, fitting_at, unknown_at, read_at, binary_digits, bits_of, or_full, held_if}
use Rattle.cut_grammar.specs.Kinds.{kind10, kind11, kind12, kind13, kind14, stream19, kind19, kind20, kind21, kind22, kind24, kind25}
use Rattle.cut_grammar.specs.Kinds.{kind_2a, kind30, kind31, info32, kind32, kind33, kind35, kind_5a, unread, kinds, kind_of}
use Rattle.cut_grammar.specs.Cut.{taken_as, cut_at}
use Rattle.cut_grammar.specs.Steps.{Head19, head19}
use Rattle.cut_grammar.specs.Ends.{stands, Ends, ends, none, short, wide}
use Rattle.cut_grammar.proofs.Layouts.{forward}
use Rattle.cut_grammar.proofs.Cutting.{cut_there}
use Rattle.cut_grammar.proofs.Others.{EveryRow, no_more, ◌&◌, found_row}
use Rattle.load_source.specs.Source.{full}
use Rattle.law_promises.specs.Four.{totp_at, npp_at, asp_at, totd_at, npd_at, asd_at, nb_at, data_at, Overflows}

-- a layout without a count of bits, whatever it reads
abbrev Steady : Layout → Type 0
Steady (number w rest) = (v : ℕ) → Steady (rest v)
Steady (counted w rest) = (p n : ℕ) → Steady (rest p n)
Steady (here rest) = (p : ℕ) → Steady (rest p)
Steady (pass part rest) = Steady rest
Steady (within n inner) = Steady inner
Steady (fitting bits rest) = ⊥
Steady (whole x) = Unit {0}
Steady (unknown described) = Unit {0}

abbrev Never : Body → Type 0
Never b = (p : ℕ) → b ≡ Err (Overflow p) → ⊥

whole_never : (x : Piece) (c : Cursor) → Never (whole_at x c)
unfolding whole_at
whole_never x (Ok q) p e = let z : ◌≡◌ {A = ℕ} 0 1 = cc in omega arith
whole_never x (Err q) p e = let z : ◌≡◌ {A = ℕ} 0 1 = cc in omega arith

unknown_never : (described : Bool) (c : Cursor) → Never (unknown_at described c)
unknown_never described (Ok q) p e = let z : ◌≡◌ {A = ℕ} 0 1 = cc in omega arith
unknown_never described (Err q) p e = let z : ◌≡◌ {A = ℕ} 0 1 = cc in omega arith

sealed_never : (end : ℕ) (b : Body) → Never b → Never (sealed end b)
unfolding sealed
sealed_never end (Ok x) h p e = let z : ◌≡◌ {A = ℕ} 0 1 = cc in omega arith
sealed_never end (Err q) h p e = h p e

enclosed_never : (inner : ℕ → Body) (c : Cursor) → ((end : ℕ) → Never (inner end)) → Never (enclosed inner c)
unfolding enclosed
enclosed_never inner (Ok end) h p e = sealed_never end (inner end) (h end) p e
enclosed_never inner (Err q) h p e = let z : ◌≡◌ {A = ℕ} 0 1 = cc in omega arith

steady_never : (l : Layout) → Steady l → (s : List ℕ) (c : Cursor) → Never (read_at l s c)
unfolding read_at
steady_never (number w rest) o s c = steady_never (rest (field_at s c w).value) (o (field_at s c w).value) s (field_at s c w).cursor
steady_never (counted w rest) o s c =
    let d = counted_at s c w in
    steady_never (rest d.from d.size) (o d.from d.size) s d.cursor
steady_never (here rest) o s c = steady_never (rest (place_of c)) (o (place_of c)) s c
steady_never (pass part rest) o s c = steady_never rest o s (pass_at part s c)
steady_never (within n inner) o s c =
    enclosed_never (λ end. read_at inner (take end s) c) (field_at s c n).cursor (λ end. steady_never inner o (take end s) c)
steady_never (fitting bits rest) o s c = absurd o
steady_never (whole x) o s c = whole_never x c
steady_never (unknown described) o s c = unknown_never described c

-- of all rows of the grammar's table, 19's alone counts bits
data Row : ℕ → Layout → Type 0 where
  steady : {kind : ℕ} (l : Layout) → Steady l → Row kind l
  counts : (l : Layout) → Row 0x19 l

row_steady : {kind : ℕ} {l : Layout} → Row kind l → (kind ≡ 0x19 → ⊥) → Steady l
row_steady (steady l h) n = h
row_steady (counts l) n = absurd (n refl)

each_row : (most : ℕ) → EveryRow Row (kinds most)
unfolding kinds kind10 kind11 kind12 kind13 kind14 kind20 kind21 kind22 kind24 kind25
    kind_2a kind30 kind31 info32 kind32 kind33 kind35 kind_5a
each_row most =
    steady kind10 (λ _ _ _. tt) &
    steady kind11 (λ _ _ _ _ _ _ _ _ _ _. tt) &
    steady kind12 (λ _ _. tt) &
    steady kind13 (λ _ _. tt) &
    steady kind14 (λ _ _ _ _ _ _. tt) &
    counts (kind19 most) &
    steady kind20 (λ _. tt) &
    steady kind21 (λ _ _. tt) &
    steady kind22 tt &
    steady unread tt &
    steady kind24 (λ _. tt) &
    steady kind25 tt &
    steady kind_2a (λ _. tt) &
    steady unread tt &
    steady kind30 (λ _ _. tt) &
    steady kind31 (λ _ _ _. tt) &
    steady kind32 (λ _ _. tt) &
    steady kind33 (λ _. tt) &
    steady unread tt &
    steady kind35 (λ _ _. tt) &
    steady unread tt &
    steady kind_5a tt &
    no_more

other_steady : (most kind : ℕ) → (kind ≡ 0x19 → ⊥) → Steady (kind_of most kind)
unfolding kind_of
other_steady most kind = row_steady (found_row Row (kinds most) kind (unknown _) (each_row most) (steady (unknown _) tt))

-- the end of a 19: where its data alphabet ended, and how many bits its data have
module _ (s : List ℕ) (bits : ℕ) (g : GeneralizedData) where
  stream_over : (c : Cursor) (p : ℕ) → read_at (stream19 bits g) s c ≡ Err (Overflow p) → (c ≡ Ok p) × (4294967295 < bits)
  unfolding read_at stream19 fitting_at
  stream_over (Ok q) p e = by_fit (leb bits 4294967295) refl e
    where
      by_fit : (t : Bool) → leb bits 4294967295 ≡ t
          → (t ⇒ whole_at (piece.Generalized g) (pass_at (fields g.size 1) s (Ok q)) ∣ Err (Overflow q)) ≡ Err (Overflow p)
          → ◌≡◌ {A = Cursor} (Ok q) (Ok p) × (4294967295 < bits)
      by_fit true b h = absurd (whole_never _ _ p h)
      by_fit false b h = let z : q ≡ p = cc in (ap Ok z, leb-false _ _ b)
  stream_over (Err q) p e = absurd (whole_never (piece.Generalized g) _ p e)

  over_stream : (c : Cursor) (p : ℕ) → c ≡ Ok p → 4294967295 < bits → read_at (stream19 bits g) s c ≡ Err (Overflow p)
  unfolding read_at stream19 fitting_at
  over_stream c p e h = rw (e, lt-leb bits 4294967295 h)

-- the numbers that a 19 begins with
module _ (s : List ℕ) where
  field_at_lem : (p q w : ℕ) → p + w ≡ q → q ≤ length s → field_at s (Ok p) w ≡ record { value = number_at s p w; cursor = Ok q }
  field_at_lem p q w e h = rw (← e) (field_there s w p (omega (arith, e, h)))

  abbrev head_of : ℕ → Head19
  head_of at = record {
    head = record {
      length = le_at s (at + 1) 4;
      pause = le_at s (at + 5) 2;
      totp = le_at s (at + 7) 4;
      npp = le_at s (at + 11) 1;
      asp = le_at s (at + 12) 1;
      totd = le_at s (at + 13) 4;
      npd = le_at s (at + 17) 1;
      asd = le_at s (at + 18) 1;
    };
    cursor = Ok (at + 19);
  }

  head_there : (at : ℕ) → at + 19 ≤ length s → head19 s (Ok (at + 1)) ≡ head_of at
  unfolding head19 number_at
  head_there at h =
      rw (
        field_at_lem (at + 1) (at + 5) 4 (omega arith) (omega arith),
        field_at_lem (at + 5) (at + 7) 2 (omega arith) (omega arith),
        field_at_lem (at + 7) (at + 11) 4 (omega arith) (omega arith),
        field_at_lem (at + 11) (at + 12) 1 (omega arith) (omega arith),
        field_at_lem (at + 12) (at + 13) 1 (omega arith) (omega arith),
        field_at_lem (at + 13) (at + 17) 4 (omega arith) (omega arith),
        field_at_lem (at + 17) (at + 18) 1 (omega arith) (omega arith),
        field_at_lem (at + 18) (at + 19) 1 (omega arith) (omega arith),
      )

  -- a field that is there began at a place
  record Began (c : Cursor) (w e : ℕ) : Type 0 where
    stood : c ≡ Ok (place_of c)
    moved : e ≡ place_of c + w
    inside : e ≤ length s

  field_began : (c : Cursor) (w : ℕ) {e : ℕ} → (field_at s c w).cursor ≡ Ok e → Began c w e
  unfolding place_of field_at
  field_began (Ok p) w {e} h =
      ⊎_elim
      (λ (a : length s < p + w). absurd (stuck (sym (ap (λ (r : Read). r.cursor) (field_short s w p a)) ∙ h)))
      (λ (a : p + w ≤ length s). let z : ◌≡◌ {A = Cursor} (Ok (p + w)) (Ok e) = sym (ap (λ (r : Read). r.cursor) (field_there s w p a)) ∙ h in
      let i : p + w ≡ e = cc in record { stood = refl; moved = sym i; inside = omega (arith, a, i) })
      (lt_or_ge (length s) (p + w))
    where
      stuck : ◌≡◌ {A = Cursor} (came_short p w) (Ok e) → ⊥
      stuck i = let z : ◌≡◌ {A = ℕ} 0 1 = cc in omega arith
  field_began (Err q) w h = absurd (let z : ◌≡◌ {A = ℕ} 0 1 = cc in omega arith)

  head_began : (at q : ℕ) → (head19 s (Ok (at + 1))).cursor ≡ Ok q → at + 19 ≤ length s
  unfolding head19 place_of
  head_began at q e =
      let a8 = field_began _ 1 e in
      let a7 = field_began _ 1 a8.stood in
      let a6 = field_began _ 4 a7.stood in
      let a5 = field_began _ 1 a6.stood in
      let a4 = field_began _ 1 a5.stood in
      let a3 = field_began _ 4 a4.stood in
      let a2 = field_began _ 2 a3.stood in
      let a1 = field_began (Ok (at + 1)) 4 a2.stood in
      omega (arith, a8.moved, a8.inside, a7.moved, a6.moved, a5.moved, a4.moved, a3.moved, a2.moved, a1.moved)

  -- groups that are there
  groups_there : (n h k w p : ℕ) → p + n * (h + k * w) ≤ length s → groups_at s (Ok p) n h k w ≡ Ok (p + n * (h + k * w))
  groups_there n h k w p l =
      groups_all s h k w {q = n} all (le_refl n)
    where
      all : Wholes (length s) p n (h + k * w) n
      all = record { few = le_refl n; there = λ _. omega (arith, l); fits = omega (arith, l); most = λ a. absurd (omega (arith, a)) }

  -- and end inside the tape
  groups-inside : (n h k w p q : ℕ) → p ≤ length s → groups_at s (Ok p) n h k w ≡ Ok q → q ≤ length s
  unfolding read_at pass_at whole_at
  groups-inside n h k w p q l e =
      of (forward (pass (groups n h k w) (whole piece.Glue)) s p (Ok p) (stands (le_refl p) l)) (ap (whole_at piece.Glue) e)
    where
      of : {b : Body} → Ends p (length s) b → b ≡ whole_body piece.Glue q → q ≤ length s
      of (ends {x = w} x y) z =
          let r : ◌≡◌ {A = Whole} w (record { piece = piece.Glue; next = q }) = cc in
          let i : w.next ≡ q = ap (λ (v : Whole). v.next) r in
          omega (arith, y, i)
      of none z = absurd (let i : ◌≡◌ {A = ℕ} 0 1 = cc in omega arith)
      of short z = absurd (let i : ◌≡◌ {A = ℕ} 0 1 = cc in omega arith)
      of wide z = absurd (let i : ◌≡◌ {A = ℕ} 0 1 = cc in omega arith)

  -- THE TABLES BEFORE THE DATA BYTES, three runs of groups: a cursor that stands past them
  abbrev passed : ℕ → ℕ → ℕ → ℕ → ℕ → Cursor → Cursor
  passed asp npp totp asd npd c = groups_at s (groups_at s (groups_at s c asp 1 npp 2) totp 1 1 2) asd 1 npd 2

  tables_there : (asp npp totp asd npd p : ℕ) → p + asp * (1 + npp * 2) + totp * 3 + asd * (1 + npd * 2) ≤ length s
      → passed asp npp totp asd npd (Ok p) ≡ Ok (p + asp * (1 + npp * 2) + totp * 3 + asd * (1 + npd * 2))
  tables_there asp npp totp asd npd p l =
      rw (groups_there asp 1 npp 2 p (omega (arith, l)), groups_there totp 1 1 2 (p + asp * (1 + npp * 2)) (omega (arith, l)))
      (groups_there asd 1 npd 2 (p + asp * (1 + npp * 2) + totp * 3) l)

  tables_passed : (asp npp totp asd npd p q : ℕ) → p ≤ length s → passed asp npp totp asd npd (Ok p) ≡ Ok q
      → (q ≡ p + asp * (1 + npp * 2) + totp * 3 + asd * (1 + npd * 2)) × (q ≤ length s)
  unfolding place_of
  tables_passed asp npp totp asd npd p q l e =
      let d3 = groups_stood s asd 1 npd 2 (groups_at s (groups_at s (Ok p) asp 1 npp 2) totp 1 1 2) e in
      let d2 = groups_stood s totp 1 1 2 (groups_at s (Ok p) asp 1 npp 2) d3.began in
      let d1 = groups_stood s asp 1 npp 2 (Ok p) d2.began in
      let i1 = groups-inside asp 1 npp 2 p _ l d2.began in
      let i2 = groups-inside totp 1 1 2 _ _ i1 (ap (λ (c : Cursor). groups_at s c totp 1 1 2) (sym d2.began) ∙ d3.began) in
      let i3 = groups-inside asd 1 npd 2 _ _ i2 (ap (λ (c : Cursor). groups_at s c asd 1 npd 2) (sym d3.began) ∙ e) in
      (omega (arith, d1.moved, d2.moved, d3.moved), i3)

-- a 19's body, by the numbers that it begins with
module _ (s : List ℕ) where
  abbrev past_pilot : Head19 → Cursor
  past_pilot h = groups_at s h.cursor (held_if h.head.totp (or_full full h.head.asp)) 1 h.head.npp 2

  abbrev past_entries : Head19 → Cursor
  past_entries h = groups_at s (past_pilot h) h.head.totp 1 1 2

  abbrev past_symbols : Head19 → Cursor
  past_symbols h = groups_at s (past_entries h) (held_if h.head.totd (or_full full h.head.asd)) 1 h.head.npd 2

  abbrev bits_in : Head19 → ℕ
  bits_in h = bits_of (or_full full h.head.asd - 1)

  abbrev data_in : Head19 → GeneralizedData
  data_in h = record {
    length = h.head.length;
    pause = h.head.pause;
    totp = h.head.totp;
    npp = h.head.npp;
    asp0 = h.head.asp;
    asp = or_full full h.head.asp;
    pilot = place_of h.cursor;
    entries = place_of (past_pilot h);
    totd = h.head.totd;
    npd = h.head.npd;
    asd0 = h.head.asd;
    asd = or_full full h.head.asd;
    nb = bits_in h;
    symbols = place_of (past_entries h);
    from = place_of (past_symbols h);
    size = (bits_in h * h.head.totd + 7) / 8;
  }

  abbrev body_of : Head19 → Body
  body_of h = read_at (stream19 (bits_in h * h.head.totd) (data_in h)) s (past_symbols h)

  general_body : (c : Cursor) → read_at (kind19 full) s c ≡ body_of (head19 s c)
  unfolding read_at kind19 pass_at head19
  general_body c = refl

  general_over : (at p : ℕ) → read_at (kind19 full) s (Ok (at + 1)) ≡ Err (Overflow p)
      → (p ≡ data_at s at) × ((data_at s at ≤ length s) × (4294967295 < nb_at s at * totd_at s at))
  general_over at p e =
      let h = head19 s (Ok (at + 1)) in
      let x = stream_over s (bits_in h * h.head.totd) (data_in h) (past_symbols h) p (sym (general_body (Ok (at + 1))) ∙ e) in
      let d3 = groups_stood s (held_if h.head.totd (or_full full h.head.asd)) 1 h.head.npd 2 (past_entries h) x.0 in
      let d2 = groups_stood s h.head.totp 1 1 2 (past_pilot h) d3.began in
      let d1 = groups_stood s (held_if h.head.totp (or_full full h.head.asp)) 1 h.head.npp 2 h.cursor d2.began in
      let l = head_began s at _ d1.began in
      let f = ap body_of (sym (head_there s at l)) ∙ sym (general_body (Ok (at + 1))) ∙ e in
      let y = stream_over s (nb_at s at * totd_at s at) (data_in (head_of s at)) (past_symbols (head_of s at)) p f in
      let a = held_if (totp_at s at) (asp_at s at) in
      let d = held_if (totd_at s at) (asd_at s at) in
      let t = tables_passed s a (npp_at s at) (totp_at s at) d (npd_at s at) (at + 19) p l y.0 in
      (t.0, (omega (arith, t.0, t.1), y.1))

  over_general : (at : ℕ) → data_at s at ≤ length s → 4294967295 < nb_at s at * totd_at s at
      → read_at (kind19 full) s (Ok (at + 1)) ≡ Err (Overflow (data_at s at))
  over_general at w b =
      let l : at + 19 ≤ length s = omega (arith, w) in
      let a = held_if (totp_at s at) (asp_at s at) in
      let d = held_if (totd_at s at) (asd_at s at) in
      let t = tables_there s a (npp_at s at) (totp_at s at) d (npd_at s at) (at + 19) w in
      general_body (Ok (at + 1))
      ∙ ap body_of (head_there s at l)
      ∙ over_stream s (nb_at s at * totd_at s at) (data_in (head_of s at)) (past_symbols (head_of s at)) (data_at s at) t b

-- a body under its name
unnamed : (k at : ℕ) (b : Body) {kind p : ℕ} → taken_as k at b ≡ taken.Overflow kind p → (k ≡ kind) × (b ≡ Err (Overflow p))
unfolding taken_as
unnamed k at (Ok x) e = absurd (let z : ◌≡◌ {A = ℕ} 0 1 = cc in omega arith)
unnamed k at (Err (Unknown described)) e = absurd (let z : ◌≡◌ {A = ℕ} 0 1 = cc in omega arith)
unnamed k at (Err (Short q)) e = absurd (let z : ◌≡◌ {A = ℕ} 0 1 = cc in omega arith)
unnamed k at (Err (Overflow q)) e = (cc, cc)

general_kind : (kind : ℕ) → kind ≡ 0x19 → kind_of full kind ≡ kind19 full
unfolding kind_of kinds
general_kind kind e = rw e

module _ (s : List ℕ) (at : ℕ) where
  -- an overflow stands inside the tape
  inside : {kind p : ℕ} → cut_at s at full ≡ taken.Overflow kind p → at < length s
  unfolding cut_at
  inside {kind} {p} e =
      ⊎_elim
      (λ (h : at < length s). h)
      (λ (h : length s ≤ at). absurd (never (rw (le-leb (length s) at h) at e)))
      (lt_or_ge at (length s))
    where
      never : taken.End ≡ taken.Overflow kind p → ⊥
      never q = let z : ◌≡◌ {A = ℕ} 0 1 = cc in omega arith

  over_cut : {kind p : ℕ} → cut_at s at full ≡ taken.Overflow kind p → Overflows s at × ((kind ≡ 0x19) × (p ≡ data_at s at))
  over_cut {kind} {p} e =
      let u = unnamed (get_or s at 0) at _ (sym (cut_there s at full (inside e)) ∙ e) in
      by_kind (eqb (get_or s at 0) 0x19) refl u.0 u.1
    where
      by_kind : (t : Bool) → eqb (get_or s at 0) 0x19 ≡ t → get_or s at 0 ≡ kind
          → read_at (kind_of full (get_or s at 0)) s (Ok (at + 1)) ≡ Err (Overflow p)
          → Overflows s at × ((kind ≡ 0x19) × (p ≡ data_at s at))
      by_kind true i k q =
          let is = eqb-true (get_or s at 0) 0x19 i in
          let x = general_over s at p (ap (λ (l : Layout). read_at l s (Ok (at + 1))) (sym (general_kind (get_or s at 0) is)) ∙ q) in
          (record { kind = is; whole = x.1.0; some = some (totd_at s at) x.1.1; wide = x.1.1 }, (sym k ∙ is, x.0))
        where
          some : (n : ℕ) → 4294967295 < nb_at s at * n → 0 < n
          some zero h = absurd (omega (arith, h, mul-zero (nb_at s at)))
          some (suc n) h = omega arith
      by_kind false i k q = absurd (steady_never _ (other_steady full (get_or s at 0) (eqb-false (get_or s at 0) 0x19 i)) s (Ok (at + 1)) p q)

  cut_over : Overflows s at → cut_at s at full ≡ taken.Overflow 0x19 (data_at s at)
  unfolding taken_as
  cut_over o =
      let l : at < length s = omega (arith, o.whole) in
      cut_there s at full l
      ∙ ap (λ (y : Layout). taken_as (get_or s at 0) at (read_at y s (Ok (at + 1)))) (general_kind (get_or s at 0) o.kind)
      ∙ ap (taken_as (get_or s at 0) at) (over_general s at o.whole o.wide)
      ∙ ap (λ (k : ℕ). taken.Overflow k (data_at s at)) o.kind

  -- THE OVERFLOW, EXACTLY: a 19's, at the place of its data bytes
  pub overflow_exactly : (kind p : ℕ)
      → (cut_at s at full ≡ taken.Overflow kind p) ↔ (Overflows s at × ((kind ≡ 0x19) × (p ≡ data_at s at)))
  overflow_exactly kind p = (λ e. over_cut e, λ x. cut_over x.0 ∙ rw (x.1.0, x.1.1))

-- NB IS THE NUMBER OF BINARY DIGITS: the fewest that n is written with, for an n of no more than f digits
pub digits-enough : (f n : ℕ) → n < 2 ^ f → n < 2 ^ binary_digits f n
unfolding binary_digits
digits-enough zero n h = h
digits-enough (suc f) n h = by_zero (eqb n 0) refl (digits-enough f (n / 2) (omega (arith, h, pow-suc 2 f)))
  where
    by_zero : (b : Bool) → eqb n 0 ≡ b → n / 2 < 2 ^ binary_digits f (n / 2) → n < 2 ^ (b ⇒ 0 ∣ 1 + binary_digits f (n / 2))
    by_zero true e k = omega (arith, eqb-true n 0 e)
    by_zero false e k =
        let a : 1 + binary_digits f (n / 2) ≡ suc (binary_digits f (n / 2)) = omega arith in
        rw a (omega (arith, k, pow-suc 2 (binary_digits f (n / 2))))

pub digits_fewest : (f n d : ℕ) → n < 2 ^ d → binary_digits f n ≤ d
unfolding binary_digits
digits_fewest zero n d h = omega arith
digits_fewest (suc f) n zero h = rw (eq-eqb n 0 (omega (arith, h))) (omega arith)
digits_fewest (suc f) n (suc d) h = by_zero (eqb n 0) (digits_fewest f (n / 2) d (omega (arith, h, pow-suc 2 d)))
  where
    by_zero : (b : Bool) → binary_digits f (n / 2) ≤ d → (b ⇒ 0 ∣ 1 + binary_digits f (n / 2)) ≤ suc d
    by_zero true k = omega arith
    by_zero false k = omega (arith, k)

-- there is such a 19: asd 3, so nb is 2, and totd 80000000
abbrev wide19 : List ℕ
wide19 = 0x19 ∷ 0 ∷ 0 ∷ 0 ∷ 0 ∷ 0 ∷ 0 ∷ 0 ∷ 0 ∷ 0 ∷ 0 ∷ 0 ∷ 0 ∷ 0 ∷ 0 ∷ 0 ∷ 0x80 ∷ 0 ∷ 3 ∷
    0 ∷ 0 ∷ 0 ∷ []

pub overflows_there : Overflows wide19 0
unfolding le_at binary_digits or_full held_if
overflows_there = record { kind = refl; whole = omega arith; some = omega arith; wide = omega arith }
