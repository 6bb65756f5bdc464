-- What a load does to a tape, one deed of the source reading at a time, keeps what adding a block and the parser's steps keep.
-- Assumes nothing but that bytes are below 256.
use Prim.Native.Nat.{ℕ}
use mathlib.Core.Path.{◌≡◌, refl}
use mathlib.Core.Bool.{Bool, true, false, ◌&&◌, not}
use mathlib.Core.List.{List}
use lib.ListN.{get_or}
use lib.Dec.{eqb}
use Rattle.law_base.specs.Rules.{◌⇒◌, ◌∣◌}
use Rattle.cut_grammar.specs.declared.Piece.{Piece}
use Rattle.load_state.specs.declared.Pending.{Pending}
use Rattle.load_state.specs.declared.Pending.TheVariants.{First, Text}
use Rattle.load_state.specs.Parser.{Parsed, on}
use Rattle.load_state.proofs.Kept.{all_also, members, keeps_pend, keeps_end, keeps_open, keeps_close}
use Rattle.load_state.specs.Kept.{Sure, sure, none, All}
use Rattle.load_blocks.specs.declared.Origin.{Origin}
use Rattle.load_blocks.specs.Adds.{Lent}
use Rattle.load_blocks.specs.Sounds.{Sound, origin_at, add_sounds}
use Rattle.load_blocks.specs.Deeds.{Deed, adding, groups, texts, group_ends, opens, closes, panics, errs, does, sounds_of, brings}
use Rattle.load_source.specs.Meaning.{deed_of}
use Rattle.load_source.specs.Source.{act}
use Rattle.law_every_load.specs.Made.{OfPiece, of, Pends}
use Rattle.law_every_load.specs.OfSource.{From, source_table}
use Rattle.law_every_load.specs.Keeps.{Invariant}
use Rattle.law_every_load.proofs.Keeps.{sounds_keep}

-- a deed of sounds with M and a name with Q
pub record Of (M : Sound → Origin → Type 0) (Q : Pending → Type 0) (origin : Origin) (d : Deed) : Type 0 where
  pub sounds : All (λ x. M x origin) (sounds_of d)
  pub name : Q (brings d)

-- any deed
pub does_keeps : {lent : Lent} {s : List ℕ} {M : Sound → Origin → Type 0} {Q : Pending → Type 0} {K : Parsed → Type 0}
    → Invariant lent s M Q K
    → (model : ℕ) (origin : Origin) (d : Deed) → Of M Q origin d → (t : Parsed) → K t → Sure K (does lent s model origin d t)
unfolding does sounds_of brings
does_keeps {lent} {s} {K = K} k model origin (adding only48 ds) f t h = by_cases (only48 && not (eqb model 0))
  where
    by_cases : (b : Bool) → Sure K (b ⇒ on t ∣ add_sounds lent s origin ds t)
    by_cases true = sure h
    by_cases false = sounds_keep k origin f.sounds t h
does_keeps k model origin (groups from size) f t h = keeps_pend k.steps (First from size) f.name h
does_keeps k model origin (texts from size) f t h = keeps_pend k.steps (Text from size) f.name h
does_keeps k model origin group_ends f t h = keeps_end k.steps f.name h
does_keeps k model origin (opens n) f t h = keeps_open k.steps n h
does_keeps k model origin closes f t h = keeps_close k.steps h
does_keeps k model origin panics f t h = none
does_keeps k model origin (errs n) f t h = none

-- a name that a deed brings is no group's later one
brought : {s : List ℕ} {at : ℕ} {piece : Piece} → From s at piece → (d : Deed) → deed_of s piece ≡ d
    → Pends (source_table s) (brings d)
unfolding brings
brought f (adding only48 ds) e = tt
brought {at = at} {piece} f (groups from size) e = record { at = at; piece = piece; cut = f; is = rw e }
brought {at = at} {piece} f (texts from size) e = record { at = at; piece = piece; cut = f; is = rw e }
brought f group_ends e = tt
brought f (opens n) e = tt
brought f closes e = tt
brought f panics e = tt
brought f (errs n) e = tt

-- any piece
pub act_keeps : {lent : Lent} {s : List ℕ} {K : Parsed → Type 0} → Invariant lent s (OfPiece (source_table s)) (Pends (source_table s)) K
    → (model at : ℕ) (piece : Piece) → From s at piece → (t : Parsed) → K t
    → Sure K (act lent s model (origin_at (get_or s at 0) at) piece t)
unfolding act
act_keeps {s = s} k model at piece f t h =
    does_keeps k model (origin_at (get_or s at 0) at) (deed_of s piece)
    (record { sounds = all_also (λ d m. of f m) (members (sounds_of (deed_of s piece))); name = brought f (deed_of s piece) refl }) t h
