-- What came of a file is settled by its fetch, so of one name the same came in both of two talks
-- over the same files and faults.
use Rattle.std.proofs.Common.{◌≡◌, ℕ, Bool, List, [], ◌∷◌, refl, sym, ap, ◌∙◌, subst}
use Rattle.hex_io.specs.declared.files.File.{File}
use Rattle.hex_io.specs.Shelves.{Fetched, Failed, Missing, Long, Contents, fetched_of}
use Rattle.hex_game.specs.Games.{GameData}
use Rattle.sgf_tree.proofs.Verdicts.{one_collection}
use Rattle.hex_engine.specs.Supply.{Load}
use Rattle.hex_engine.specs.declared.loadsgf.Loaded.{Loaded}
use Rattle.hex_engine.specs.declared.loadsgf.Loaded.TheVariants.{Unread, Refused, Loads}
use Rattle.sgf_game.specs.RecordOf.{IsRecordOf}
use Rattle.hex_engine.specs.Uses.{IsReadAs, IsLoadOf, CameOf}

-- as far as both go, the same came of one name
abbrev pub SameLoads : List Load → List Load → Type 0
SameLoads [] others = Unit {0}
SameLoads (load ∷ loads) [] = Unit {0}
SameLoads (load ∷ loads) (other ∷ others) = (load.name ≡ other.name → load.what ≡ other.what)
    × SameLoads loads others

-- ---- equal loads

one_list : (loads : List Load) → SameLoads loads loads
one_list [] = tt
one_list (load ∷ loads) = (λ e. refl, one_list loads)

pub equal_loads : (loads others : List Load) → loads ≡ others → SameLoads loads others
equal_loads loads others e = subst (λ (z : List Load). SameLoads loads z) e (one_list loads)

-- ---- loads that came of the same files and faults

-- bytes are a record of one game at most
one_game : (bytes : List ℕ) (a b : GameData) → IsRecordOf bytes a → IsRecordOf bytes b → a ≡ b
one_game bytes a b p q =
    let same = one_collection p.trees q.trees bytes p.text q.text in
    let one = p.is in
    let other = q.is in
    cc

one_reading : (bytes : List ℕ) (a b : Loaded) → IsReadAs bytes a → IsReadAs bytes b → a ≡ b
one_reading bytes Unread b p q = absurd p
one_reading bytes Refused Unread p q = absurd q
one_reading bytes Refused Refused p q = refl
one_reading bytes Refused (Loads b) p q = absurd (p b q)
one_reading bytes (Loads a) Unread p q = absurd q
one_reading bytes (Loads a) Refused p q = absurd (q a p)
one_reading bytes (Loads a) (Loads b) p q = ap Loads (one_game bytes a b p q)

one_load : (fetched : Fetched) (a b : Loaded) → IsLoadOf fetched a → IsLoadOf fetched b → a ≡ b
one_load Failed a b p q = p ∙ sym q
one_load Missing a b p q = p ∙ sym q
one_load Long a b p q = p ∙ sym q
one_load (Contents bytes) a b p q = one_reading bytes a b p q

pub told_loads : (files : List File) (tries : List Bool) (loads others : List Load)
    → CameOf files tries loads → CameOf files tries others → SameLoads loads others
told_loads files tries [] others p q = tt
told_loads files tries (load ∷ loads) [] p q = tt
told_loads files [] (load ∷ loads) (other ∷ others) p q = absurd p
told_loads files (failed ∷ tries) (load ∷ loads) (other ∷ others) p q = (
  λ e. one_load (fetched_of files failed other.name) load.what other.what
      (subst (λ (name : List ℕ). IsLoadOf (fetched_of files failed name) load.what) e p.0) q.0,
  told_loads files tries loads others p.1 q.1,
)
