-- The time up to the end of the last entry that sounds, over any list and any test of labels (rule 112): an entry sounds if the test takes
-- its label and it has length. Definitions alone; assumes nothing.
use Rattle.std.specs.Prelude.{◌≡◌, Bool, true, ◌&&◌, ◌⊎◌, List, [], ◌∷◌, ◌++◌, ℕ, ◌+◌, ◌<◌, ltb}
use Rattle.law_base.specs.Rules.{◌⇒◌, ◌∣◌}
use Rattle.law_pulses.specs.Play.{Level, Entry, pulse, endless, time, Finite}

-- a pulse of t in front of entries whose last that sounds ends after r: it is passed whole; or itself the last; or none sounds
unfoldable pub ends_at : Bool → ℕ → ℕ → ℕ
ends_at takes t r = ltb 0 r ⇒ t + r ∣ (takes && ltb 0 t) ⇒ t ∣ 0

module _ {A : Type 0} (p : A → Bool) where
  -- THE TIME UP TO THE END OF THE LAST ENTRY THAT SOUNDS, before the first endless entry or the end; 0 if none does
  unfoldable pub sounding_time : List (Entry A) → ℕ
  sounding_time [] = 0
  sounding_time (endless a v ∷ es) = 0
  sounding_time (pulse a v t ∷ es) = ends_at (p a) t (sounding_time es)

  -- no entry sounds before the first endless entry or the end
  unfoldable pub Silent : List (Entry A) → Type 0
  Silent [] = Unit
  Silent (endless a v ∷ es) = Unit
  Silent (pulse a v t ∷ es) = (p a ≡ true → t ≡ 0) × Silent es

  -- an entry of es sounds, none behind it does, and n is the time up to its end
  pub record LastSounds (es : List (Entry A)) (n : ℕ) : Type 0 where
    pub gone : List (Entry A)
    pub label : A
    pub level : Level
    pub len : ℕ
    pub next : List (Entry A)
    pub split : es ≡ gone ++ pulse label level len ∷ next
    pub finite : Finite gone
    pub takes : p label ≡ true
    pub long : 0 < len
    pub no_more : Silent next
    pub ends : n ≡ time gone + len

  -- IN WORDS: n is the time up to the end of the last entry that sounds, or none does and it is 0
  abbrev pub SoundsUpTo : List (Entry A) → ℕ → Type 0
  SoundsUpTo es n = LastSounds es n ⊎ (Silent es × (n ≡ 0))

  -- es is cut after n T-states, and behind the cut nothing sounds
  pub record SilentRest (es : List (Entry A)) (n : ℕ) : Type 0 where
    pub gone : List (Entry A)
    pub next : List (Entry A)
    pub split : es ≡ gone ++ next
    pub finite : Finite gone
    pub lasts : time gone ≡ n
    pub silent : Silent next
    pub whole : time es ≡ n + time next
