-- What is so of every row at its birth, and lasts, is so of every row that is read, whatever the reading. Assumes nothing.
use Prim.Native.Nat.{ℕ, ◌+◌, ◌≤◌, ◌<◌}
use native.Mathlib.Omega.{arith}
use mathlib.Core.Path.{◌≡◌, refl, sym, ap, subst, ◌∙◌}
use mathlib.Core.Bool.{Bool, true, false, ◌&&◌}
use mathlib.Core.List.{List, [], ◌++◌}
use lib.ListN.{length, get_or, take, drop, length-append, length-take, length-drop}
use lib.Seq.{drop_at, take_all, take-append-le, drop-append-le, get_or-take, get_or-drop}
use lib.Dec.{eqb}
use Rattle.law_base.specs.Rules.{◌⇒◌, ◌∣◌}
use Rattle.rows.specs.declared.Block.{Block}
use Rattle.rows.specs.declared.Tone.{Tone}
use Rattle.rows.specs.Table.{get, table_of, zeros}
use Rattle.rows.specs.Rows.{tone, with_pause, tones_in}
use Rattle.rows.proofs.Tables.{get_row}
use Rattle.load_state.specs.declared.Pending.{Pending}
use Rattle.load_state.specs.declared.Pending.TheVariants.{Nothing, First, Later, Text}
use Rattle.load_state.specs.Parser.{named, used, empty, with_tones, paused}
use Rattle.load_state.proofs.Kept.{all_also, kept-empty, with_block_lem, kept_steps}
use Rattle.load_state.specs.Kept.{All, nil, cons, Lasting, KeptSoFar}
use Rattle.load_blocks.specs.declared.Origin.{Origin}
use Rattle.load_blocks.specs.Sounds.{Sound, row_of}
use Rattle.load_blocks.specs.Adds.{Lent}
use Rattle.text_name.specs.Names.{is_header, unselected, name_one, name_all}
use Rattle.law_every_load.specs.Made.{Table, Pends, GivenName, RowOver, LastsThrough}
use Rattle.law_every_load.specs.Keeps.{Invariant}

-- what does not look at a row's pause is the same with 22's
pub paused-same : {A : Type 0} (f : Block → A) (r : Block) → f (with_pause 3500 r) ≡ f r → f (paused r) ≡ f r
unfolding paused
paused-same f r e = by_cases (eqb r.endless 0 && eqb r.pause 0)
  where
    by_cases : (b : Bool) → f (b ⇒ with_pause 3500 r ∣ r) ≡ f r
    by_cases true = e
    by_cases false = refl

-- a row's own tone rows are as many as it counts, and are those that the table holds from its first one on
module _ (all : List Tone) (r : Block) (h : r.tone + r.tones ≤ length all) where
  pub own_count : length (tones_in all r) ≡ r.tones
  own_count = rw (length-take, length-drop) (omega arith)

  pub own_tone : (N i : ℕ) (d : Tone) → i < r.tones → get tone (table_of tone all N) (r.tone + i) ≡ get_or (tones_in all r) i d
  own_tone N i d k =
      get_row tone all (zeros N) (r.tone + i) d (omega arith)
      ∙ sym (get_or-take r.tones (drop r.tone all) i d k ∙ get_or-drop r.tone all i d)

-- a name once used is a group's later one, or none
used_pends : (T : Table) (p : Pending) → Pends T p → Pends T (used p)
used_pends T Nothing h = tt
used_pends T (First text chars) h = h
used_pends T (Later text chars) h = h
used_pends T (Text text chars) h = tt

module _ {P : List Tone → Block → Type 0} where
  -- more tone rows behind
  row_longer : (all ts : List Tone) (r : Block) → RowOver P all r → RowOver P (all ++ ts) r
  row_longer all ts r h =
      let i = h.inside in
      let n : r.tone ≤ length all = omega arith in
      let m : r.tones ≤ length (drop r.tone all) = rw length-drop (omega arith) in
      let e : tones_in (all ++ ts) r ≡ tones_in all r =
      ap (take r.tones) (drop-append-le r.tone all ts n) ∙ take-append-le r.tones (drop r.tone all) ts m in
      record { inside = rw length-append (omega arith); has = rw e h.has }

  -- a row over the last ones
  row_new : (all ts : List Tone) (r : Block) → r.tone ≡ length all → r.tones ≡ length ts → P ts r → RowOver P (all ++ ts) r
  row_new all ts r e n h =
      let q : tones_in (all ++ ts) r ≡ ts =
      ap (take r.tones) (drop_at all ts r.tone (sym e)) ∙ take_all r.tones ts (omega arith) in
      record { inside = rw length-append (omega arith); has = rw q h }

  module _ {T : Table} (k : LastsThrough T P) where
    row_named : (all : List Tone) (p : Pending) (r : Block) → Pends T p → RowOver P all r → RowOver P all (named p r)
    row_named all Nothing r q h = h
    row_named all (First from size) r q h =
        record { inside = h.inside; has = k.naming 1 3 from size (tones_in all r) r (GivenName.first q) h.has }
    row_named all (Later from size) r q h =
        record { inside = h.inside; has = k.naming 0 4 from size (tones_in all r) r (GivenName.later q) h.has }
    row_named all (Text from size) r q h =
        record { inside = h.inside; has = k.naming 1 2 from size (tones_in all r) r (GivenName.text q) h.has }

    row_paused : (all : List Tone) (r : Block) → RowOver P all r → RowOver P all (paused r)
    row_paused all r h =
        let e : tones_in all (paused r) ≡ tones_in all r = paused-same (tones_in all) r refl in
        let n : (paused r).tone + (paused r).tones ≡ r.tone + r.tones = paused-same (λ q. q.tone + q.tones) r refl in
        record {
          inside = omega (arith, h.inside);
          has = subst (λ (ts : List Tone). P ts (paused r)) (sym e) (k.pausing (tones_in all r) r h.has);
        }

    lasting : (all : List Tone) → Lasting (RowOver P all) (Pends T)
    lasting all =
        record {
          naming = λ p r q h. row_named all p r q h;
          copying = λ r h. record { inside = h.inside; has = k.naming 0 0 0 0 (tones_in all r) r GivenName.none h.has };
          pausing = row_paused all;
          uses = λ p q. used_pends T p q;
          nothing = tt;
        }

    -- rows of sounds with M, which have P, keep it
    module _ {M : Sound → Origin → Type 0}
        (has : (origin : Origin) (d : Sound) (tone : ℕ) → M d origin → P d.tones (row_of T.bytes origin d tone)) where
      pub rows_keep : (lent : Lent) → Invariant lent T.bytes M (Pends T) (λ t. KeptSoFar (RowOver P t.tones) (Pends T) t)
      unfolding empty row_of
      rows_keep lent =
          record {
            begins = kept-empty (lasting []);
            adding = λ origin d t m _ _ h.
                with_block_lem (lasting (t.tones ++ d.tones)) (row_of T.bytes origin d (length t.tones)) (with_tones d.tones t)
                (row_new t.tones d.tones _ refl refl (has origin d _ m))
                (record { rows = all_also (row_longer t.tones d.tones) h.rows; name = h.name });
            steps = record {
              copying = λ r t i n h. (kept_steps (lasting t.tones) lent.blocks).copying r t i n h;
              naming = λ p t q h. (kept_steps (lasting t.tones) lent.blocks).naming p t q h;
              pausing = λ t h. (kept_steps (lasting t.tones) lent.blocks).pausing t h;
              looping = λ l t h. (kept_steps (lasting t.tones) lent.blocks).looping l t h;
            };
          }

-- the naming pass keeps what it leaves of a row alone
pub named_all : {Q : Block → Type 0} (s : List ℕ) → ((r : Block) → Q r → Q (unselected r)) → (p : Bool) {rs : List Block}
    → All Q rs → All Q (name_all s p rs)
unfolding name_all name_one
named_all s f p nil = nil
named_all {Q} s f p (cons {x = r} h hs) = cons (by_cases (is_header s r) p) (named_all s f (is_header s r) hs)
  where
    by_cases : (b c : Bool) → Q (b ⇒ r ∣ c ⇒ unselected r ∣ r)
    by_cases true c = h
    by_cases false true = f r h
    by_cases false false = h
