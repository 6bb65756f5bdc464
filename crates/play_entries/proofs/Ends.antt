-- A BLOCK'S END: an edge if there is one, and the pause. Together they last the pause, or never end, and neither sounds. Assumes nothing.
use Prim.Native.Nat.{ℕ, ◌+◌, ◌-◌, ◌<◌, min}
use native.Mathlib.Nat.{add-zero}
use native.Mathlib.Omega.{arith}
use borrow.Author.Tests.{eq-eqb, ne_eqb}
use mathlib.Core.Path.{◌≡◌, refl, sym, ap, ◌∙◌}
use mathlib.Core.Bool.{Bool, true, false, not, and-false}
use mathlib.Core.List.{List, [], ◌∷◌, ◌++◌, append_assoc}
use Rattle.law_base.specs.Rules.{◌⇒◌, ◌∣◌}
use Rattle.law_pulses.specs.Play.{Level, Entry, pulse, stopped, time, comes_to, Finite}
use Rattle.law_pulses.specs.Sounding.{ends_at, sounding_time}
use Rattle.law_pulses.proofs.Sounding.{sounding-behind}
use Rattle.rows.specs.declared.Block.{Block}
use Rattle.play_entries.specs.Entries.{Label, label_at, entry_of, is_source, edged, edge_of, pause_of, pause_entry}
use Rattle.play_entries.specs.Places.{sounds}
use Rattle.play_entries.specs.declared.Phase.TheVariants.{Edge, Pause}

-- the end of block b
abbrev pub end_of : List ℕ → ℕ → Block → List (Entry Label)
end_of tones b r = edge_of tones b r ++ pause_entry tones b r ∷ []

-- a stop has no edge
pub stop_edge : (r : Block) → r.endless ≡ 1 → edged r ≡ false
unfolding edged
stop_edge r e = rw (eq-eqb r.endless 1 e) (and-false (not (is_source r)))

by_edge : (x : Bool) (a d : Label) (v u : Level) (n : ℕ) (es : List (Entry Label))
    → time ((x ⇒ pulse a v (min 3500 n) ∷ [] ∣ []) ++ pulse d u (x ⇒ n - 3500 ∣ n) ∷ es) ≡ n + time es
unfolding time
by_edge true a d v u n es = omega arith
by_edge false a d v u n es = refl

by_comes : (x : Bool) (es : List (Entry Label)) (n : ℕ) (a d : Label) (v u : Level) (m : ℕ)
    → comes_to ((x ⇒ pulse a v n ∷ [] ∣ []) ++ pulse d u m ∷ es) ≡ comes_to es
unfolding comes_to
by_comes true es n a d v u m = refl
by_comes false es n a d v u m = refl

by-silence : (x : Bool) (b : ℕ) (v u : Level) (n m : ℕ) (es : List (Entry Label)) → sounding_time sounds es ≡ 0
    → sounding_time sounds ((x ⇒ pulse (label_at b Edge) v n ∷ [] ∣ []) ++ pulse (label_at b Pause) u m ∷ es) ≡ 0
unfolding sounding_time ends_at
by-silence true b v u n m es z = rw z
by-silence false b v u n m es z = rw z

by_finite : (x : Bool) (a d : Label) (v u : Level) (n m : ℕ) → Finite ((x ⇒ pulse a v n ∷ [] ∣ []) ++ pulse d u m ∷ [])
unfolding Finite
by_finite true a d v u n m = tt
by_finite false a d v u n m = tt

module _ (tones : List ℕ) (b : ℕ) (r : Block) (es : List (Entry Label)) where
  pub end_time : (r.endless ≡ 1 → ⊥) → time (edge_of tones b r ++ pause_entry tones b r ∷ es) ≡ r.pause + time es
  unfolding pause_of entry_of
  end_time e = rw (ne_eqb r.endless 1 e) (by_edge (edged r) _ _ _ _ r.pause es)

  pub end_on : (r.endless ≡ 1 → ⊥) → comes_to (edge_of tones b r ++ pause_entry tones b r ∷ es) ≡ comes_to es
  unfolding pause_of entry_of
  end_on e = rw (ne_eqb r.endless 1 e) (by_comes (edged r) es _ _ _ _ _ _)

  pub end_none : r.endless ≡ 1 → time (edge_of tones b r ++ pause_entry tones b r ∷ es) ≡ 0
  unfolding pause_of entry_of time
  end_none e = rw (stop_edge r e, eq-eqb r.endless 1 e)

  pub end_comes : r.endless ≡ 1 → comes_to (edge_of tones b r ++ pause_entry tones b r ∷ es) ≡ stopped
  unfolding pause_of entry_of comes_to
  end_comes e = rw (stop_edge r e, eq-eqb r.endless 1 e)

  -- nothing sounds where nothing does behind it, or where it never ends; where something does, it is passed whole
  pub end_stop : r.endless ≡ 1 → sounding_time sounds (edge_of tones b r ++ pause_entry tones b r ∷ es) ≡ 0
  unfolding pause_of entry_of sounding_time
  end_stop e = rw (stop_edge r e, eq-eqb r.endless 1 e)

  pub end_silent : (r.endless ≡ 1 → ⊥) → sounding_time sounds es ≡ 0
      → sounding_time sounds (edge_of tones b r ++ pause_entry tones b r ∷ es) ≡ 0
  unfolding pause_of entry_of
  end_silent e z = rw (ne_eqb r.endless 1 e) (by-silence (edged r) b _ _ _ _ es z)

  pub end_passed : (r.endless ≡ 1 → ⊥) → 0 < sounding_time sounds es
      → sounding_time sounds (edge_of tones b r ++ pause_entry tones b r ∷ es) ≡ r.pause + sounding_time sounds es
  unfolding pause_of entry_of time
  end_passed e h =
      let lasts : time (end_of tones b r) ≡ r.pause = rw (ne_eqb r.endless 1 e) (by_edge (edged r) _ _ _ _ r.pause [] ∙ add-zero _) in
      ap (sounding_time sounds) (sym (append_assoc (edge_of tones b r) (pause_entry tones b r ∷ []) es))
      ∙ sounding-behind sounds (end_of tones b r) es (rw (ne_eqb r.endless 1 e) (by_finite (edged r) _ _ _ _ _ _)) h
      ∙ ap (λ (x : ℕ). x + sounding_time sounds es) lasts
