-- What playing a list of entries means: the measured player (rules 94 to 101), and demand 3 (rule 7). Definitions alone; assumes nothing.
use Rattle.std.specs.Prelude.{◌≡◌, Bool, true, false, List, [], ◌∷◌, ◌++◌, ℕ, ◌+◌, ◌-◌, ◌≤◌, ◌<◌, ltb, eqb, length}
use Rattle.law_base.specs.Rules.{◌⇒◌, ◌∣◌}

abbrev pub Level : Type 0
Level = Bool

abbrev pub low : Level
low = false

abbrev pub high : Level
high = true

-- an entry: its label, its level, and its T-states or none that ends it
pub data Entry (A : Type 0) : Type 0 where
  pulse : A → Level → ℕ → Entry A
  endless : A → Level → Entry A

pub data Status : Type 0 where
  standing : Status
  stopped : Status
  ended : Status

-- a call's answer. The head is the list that is left to play: its own entry with what is left of it, then those behind;
-- [] is the count's start
pub record Answer (A : Type 0) : Type 0 where
  pub place : List (Entry A)
  pub tells : Status
  pub passed : ℕ

module _ {A : Type 0} where
  -- what is left to play after n T-states: 0 alters nothing; some of the entry is left; or it is spent, and the next one stands full
  unfoldable pub rest : List (Entry A) → ℕ → List (Entry A)
  rest [] n = []
  rest (endless a v ∷ es) n = endless a v ∷ es
  rest (pulse a v t ∷ es) n = eqb n 0 ⇒ (pulse a v t ∷ es) ∣ ltb n t ⇒ (pulse a v (t - n) ∷ es) ∣ rest es (n - t)

  -- the T-states of n that find no entry
  unfoldable pub over : List (Entry A) → ℕ → ℕ
  over [] n = n
  over (endless a v ∷ es) n = 0
  over (pulse a v t ∷ es) n = over es (n - t)

  -- stopped exactly at an endless entry
  unfoldable pub status_here : List (Entry A) → Status
  status_here [] = standing
  status_here (endless a v ∷ es) = stopped
  status_here (pulse a v t ∷ es) = standing

  -- ended where T-states found no entry
  unfoldable pub status : List (Entry A) → ℕ → Status
  status rs u = ltb 0 u ⇒ ended ∣ status_here rs

  abbrev pub made : List (Entry A) → Status → ℕ → Answer A
  made p s k = record { place = p; tells = s; passed = k }

  -- the measured player's answer to a call of n
  unfoldable pub answer : List (Entry A) → ℕ → Answer A
  answer es n = made (rest es n) (status (rest es n) (over es n)) (length es - length (rest es n))

  unfoldable pub counted_on : ℕ → Answer A → Answer A
  counted_on k r = made r.place r.tells (k + r.passed)

  -- a call of n and the calls after it: the last one's place and status, and the entries passed in all
  unfoldable pub calls : List (Entry A) → ℕ → List ℕ → Answer A
  calls es n [] = answer es n
  calls es n (m ∷ ms) = counted_on (answer es n).passed (calls (answer es n).place m ms)

  -- the listed time left: up to the first endless entry, or the end
  unfoldable pub time : List (Entry A) → ℕ
  time [] = 0
  time (endless a v ∷ es) = 0
  time (pulse a v t ∷ es) = t + time es

  -- from the first endless entry on; [] where there is none
  unfoldable pub final : List (Entry A) → List (Entry A)
  final [] = []
  final (endless a v ∷ es) = endless a v ∷ es
  final (pulse a v t ∷ es) = final es

  -- what a list comes to: stopped at its first endless entry, or ended
  unfoldable pub comes_to : List (Entry A) → Status
  comes_to [] = ended
  comes_to (endless a v ∷ es) = stopped
  comes_to (pulse a v t ∷ es) = comes_to es

  -- no entry is endless
  unfoldable pub Finite : List (Entry A) → Type 0
  Finite [] = Unit
  Finite (endless a v ∷ es) = ⊥
  Finite (pulse a v t ∷ es) = Finite es

-- N, where it is cut into these calls
unfoldable pub sum : List ℕ → ℕ
sum [] = 0
sum (n ∷ ns) = n + sum ns

-- each call is of 1 or more
unfoldable pub Positive : List ℕ → Type 0
Positive [] = Unit
Positive (n ∷ ns) = (0 < n) × Positive ns

-- where the list says: rs is left once T-state n of es is spent, in the entry of this label, level and length
pub record Spent {A : Type 0} (es : List (Entry A)) (n : ℕ) (rs : List (Entry A)) : Type 0 where
  pub gone : List (Entry A)
  pub label : A
  pub level : Level
  pub len : ℕ
  pub next : List (Entry A)
  pub split : es ≡ gone ++ pulse label level len ∷ next
  pub finite : Finite gone
  pub before : time gone < n
  pub within : n ≤ time gone + len
  pub some_left : n < time gone + len → rs ≡ pulse label level (time gone + len - n) ∷ next
  pub none_left : n ≡ time gone + len → rs ≡ next

-- rs is whatever follows the last pulse with length of es
pub record AtSum {A : Type 0} (es rs : List (Entry A)) : Type 0 where
  pub gone : List (Entry A)
  pub label : A
  pub level : Level
  pub len : ℕ
  pub split : es ≡ gone ++ pulse label level len ∷ rs
  pub finite : Finite gone
  pub long : 0 < len
  pub no_more : time rs ≡ 0

-- DEMAND 3: r is what playing N T-states of es, at least 1, has to come to
pub record Demanded {A : Type 0} (es : List (Entry A)) (N : ℕ) (r : Answer A) : Type 0 where
  -- up to the sum the head stands where the list says, and time gone and listed time left are what was listed
  pub where_said : N ≤ time es → Spent es N r.place
  pub kept : N ≤ time es → N + time r.place ≡ time es
  -- below the sum, neither stopped nor ended
  pub below : N < time es → r.tells ≡ standing
  -- at the sum, at whatever follows the last pulse with length, and it tells what that is
  pub at_sum : N ≡ time es → AtSum es r.place × (r.tells ≡ status_here r.place)
  -- above, stopped or ended; whatever N is above it, so it stays so (`stays_so` in proofs/Demand)
  pub above : time es < N → (r.place ≡ final es) × (r.tells ≡ comes_to es)
  -- entries passed and entries left are those there were
  pub counts : r.passed + length r.place ≡ length es

-- a way to answer calls meets demand 3: over any list, however N is cut into calls of 1 or more
abbrev pub Meets : {A : Type 0} → (List (Entry A) → ℕ → List ℕ → Answer A) → Type 0
Meets {A} run = (es : List (Entry A)) (n : ℕ) (ns : List ℕ) → 0 < n → Positive ns → Demanded es (n + sum ns) (run es n ns)
