-- What the steps of adding the playouts answer, whatever blocks the words are linked by. No clause
-- of a public call cites this.
use Rattle.std.specs.Prelude.{◌≡◌, ℕ, ◌+◌, true, Bool, List, length}
use Rattle.std.specs.Prelude.{MatchBool, MatchOption, Option, Vec}
use Rattle.std.specs.declared.alloc.Global.{Global}
use Rattle.tree_words.specs.Blocks.{In, LinkedBlock, has_node}
use Rattle.tree_words.specs.Complete.{Linked}
use Rattle.tree_words.specs.Counts.{Exact}
use Rattle.tree_words.specs.Growth.{Grown}
use Rattle.tree_words.specs.Paths.{node_state}
use Rattle.tree_words.specs.Records.{IsRecord, Recorded}
use Rattle.tree_words.specs.Settings.{IsSetting, Setting}
use Rattle.tree_words.specs.Words.{end_of}
use Rattle.trace_audit.specs.Sums.{AreHanded, AreOwn, AreSums}
use Rattle.trace_audit.specs.Tables.{IsLinked, site_state}
use Rattle.trace_audit.specs.declared.sites.Site.{Site}
use Rattle.trace_audit.specs.declared.sites.Table.{Table}

-- the words of the shape are linked by these blocks, and the table has the site of each
abbrev pub IsLinkedTree : Setting → List LinkedBlock → List ℕ → Table → Type 0
IsLinkedTree s bs words t =
    IsSetting s × (length words ≡ end_of s) × IsLinked s words t bs

-- the words are linked by blocks, and the table has the site of each, for some shape
abbrev pub IsTableOf : List ℕ → Table → Type 0
IsTableOf words t = (s : Setting) × (bs : List LinkedBlock) × IsLinkedTree s bs words t

-- one of the blocks begins at `at` and has a node at x
abbrev pub HasNodeAt : List LinkedBlock → ℕ → ℕ → Type 0
HasNodeAt bs at x =
    (b : LinkedBlock) × In b bs × (b.start ≡ at) × (has_node b x ≡ true)

-- none of the blocks has a node at x
abbrev pub HasNoNode : List LinkedBlock → ℕ → Type 0
HasNoNode bs x = (b : LinkedBlock) → In b bs → ¬ (has_node b x ≡ true)

-- the answer is where the linked block begins that has a node at x; `None` if none has
abbrev pub IsBlockOf : List ℕ → Table → ℕ → Option ℕ → Type 0
IsBlockOf words t x answer = (s : Setting) (bs : List LinkedBlock)
    → IsLinkedTree s bs words t
    → MatchOption answer (HasNoNode bs x) (λ at. HasNodeAt bs at x)

-- the words are linked, and the block that begins at `at` has a node at x
abbrev pub IsLinkedNode : List ℕ → Table → ℕ → ℕ → Type 0
IsLinkedNode words t at x = (s : Setting) × (bs : List LinkedBlock)
    × IsLinkedTree s bs words t × HasNodeAt bs at x

-- the site has the board of the node x and the player to move there
abbrev pub IsSiteOf : List ℕ → Table → ℕ → ℕ → Site → Type 0
IsSiteOf words t at x p = (s : Setting) (bs : List LinkedBlock)
    → IsLinkedTree s bs words t → HasNodeAt bs at x → site_state p ≡ node_state s bs x

-- the words are linked, and the sums are those of the first n playouts, each at its leaf
abbrev pub HasOwnSums : Setting → List ℕ → Table → List ℕ → ℕ → Type 0
HasOwnSums s words t sums n =
    (bs : List LinkedBlock) × IsLinked s words t bs × AreOwn s bs words sums n

-- the words are linked, a block begins at `at`, and all blocks behind it have handed up their sums
abbrev pub MayHandUp : Setting → List ℕ → List ℕ → ℕ → Type 0
MayHandUp s words sums at = (bs : List LinkedBlock) × (b : LinkedBlock) × Linked s words bs
    × In b bs × (b.start ≡ at) × AreHanded s bs words sums (at + 1)

-- whatever blocks the words are linked by, if these are the sums with all blocks behind `at` handed
-- up, and a block begins there: now its sums are handed up too
abbrev pub HandsUp : Setting → List ℕ → List ℕ → List ℕ → ℕ → Type 0
HandsUp s words before after at = (bs : List LinkedBlock) (b : LinkedBlock) → Linked s words bs
    → In b bs → b.start ≡ at → AreHanded s bs words before (at + 1)
    → AreHanded s bs words after at

-- whatever blocks the words are linked by, if these were the sums with each playout at its leaf:
-- now they are those of all playouts
abbrev pub HandsAll : Setting → List ℕ → Table → List ℕ → List ℕ → Type 0
HandsAll s words t before after = (bs : List LinkedBlock) → IsLinked s words t bs
    → AreOwn s bs words before s.knobs.playouts → AreSums s bs words after s.knobs.playouts

-- the words are linked, and the sums are those of the first n playouts
abbrev pub HasSumsOf : Setting → List ℕ → Table → List ℕ → ℕ → Type 0
HasSumsOf s words t sums n =
    (bs : List LinkedBlock) × IsLinked s words t bs × AreSums s bs words sums n

-- the words are linked, each playout has its record, and the sums are those of all
abbrev pub HasAllSums : Setting → List ℕ → Table → List ℕ → Type 0
HasAllSums s words t sums = (bs : List LinkedBlock) × IsLinked s words t bs
    × Recorded s bs words × AreSums s bs words sums s.knobs.playouts

-- whatever blocks the words are linked by: playout k has its record, and the sums have one playout
-- more, at its leaf; or it has none. The answer says which
abbrev pub AddsPlayout : Setting → List ℕ → Table → List ℕ → List ℕ → ℕ → Bool → Type 0
AddsPlayout s words t before after k answer = (bs : List LinkedBlock)
    → IsLinked s words t bs → AreOwn s bs words before k
    → MatchBool answer (IsRecord s bs words k × AreOwn s bs words after (k + 1))
    (¬ (IsRecord s bs words k))

-- whatever blocks the words are linked by: each playout has its record, and the answer is the sums
-- of all; or one has none, and there is no answer
abbrev pub AddsPlayouts : Setting → List ℕ → Table → Option (Vec ℕ Global) → Type 0
AddsPlayouts s words t answer = (bs : List LinkedBlock) → IsLinked s words t bs
    → MatchOption answer (¬ (Recorded s bs words))
    (λ v. Recorded s bs words × AreSums s bs words v.items s.knobs.playouts)

-- whatever blocks the words are linked by, if these are the sums of all playouts: the answer says
-- whether the counts are exact
abbrev pub TellsExact : Setting → List ℕ → Table → List ℕ → Bool → Type 0
TellsExact s words t sums answer = (bs : List LinkedBlock) → IsLinked s words t bs
    → AreSums s bs words sums s.knobs.playouts
    → MatchBool answer (Exact s bs words) (¬ (Exact s bs words))

-- whatever blocks the words are linked by, if each playout has its record and these are the sums of
-- all: the answer says whether the tree has grown as the knobs say
abbrev pub TellsGrown : Setting → List ℕ → Table → List ℕ → Bool → Type 0
TellsGrown s words t sums answer = (bs : List LinkedBlock) → IsLinked s words t bs
    → Recorded s bs words → AreSums s bs words sums s.knobs.playouts
    → MatchBool answer (Grown s bs words) (¬ (Grown s bs words))
