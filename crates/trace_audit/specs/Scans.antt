-- What the steps of a scan of the words answer: that the blocks are scanned further, or that the
-- words are linked by no blocks; and what is compared for it. No clause of a public call cites
-- this.
use Rattle.std.specs.Prelude.{◌≡◌, ℕ, ◌+◌, ◌<◌, ◌≤◌, true, Bool, List, [], length, slice_index}
use Rattle.std.specs.Prelude.{MatchBool, MatchOption, Option}
use Rattle.tree_words.specs.Blocks.{LinkedBlock, is_node, is_header_or_move, size}
use Rattle.tree_words.specs.Paths.{node_state}
use Rattle.tree_words.specs.Settings.{Setting, IsSetting}
use Rattle.tree_words.specs.Words.{area_at, end_of, root_at}
use Rattle.tree_words.specs.declared.layout.TheConstants.{HEADER_WORDS}
use Rattle.trace_audit.specs.Tables.{AreUnlinked, IsEntered, IsInLastBlock, IsLinked, Scanned}
use Rattle.trace_audit.specs.Tables.{StandsInArea, site_state}
use Rattle.trace_audit.specs.declared.sites.Site.{Site}
use Rattle.trace_audit.specs.declared.sites.Table.{Table}

-- the header words and the moves of the block, which has so many words, are those from `at` on
abbrev pub ShowsWords : List ℕ → ℕ → List ℕ → ℕ → Type 0
ShowsWords words at block many = (i : ℕ) → i < many → is_header_or_move i ≡ true
    → slice_index words (at + i) ≡ slice_index block i

-- the answer is the word after the block that begins at `at`, if the block stands in the area; it
-- is `None` if the block does not stand there
abbrev pub IsBlockEnd : Setting → List ℕ → ℕ → LinkedBlock → Option ℕ → Type 0
IsBlockEnd s words at b answer = MatchOption answer (¬ (StandsInArea s words b))
    (λ end. StandsInArea s words b × (end ≡ at + size b))

-- a block is entered in the index from word `from` on and before word `to`
abbrev pub HasEntry : List ℕ → ℕ → ℕ → Type 0
HasEntry index from to = (i : ℕ) × (from ≤ i) × (i < to) × (0 < slice_index index i)

-- no block is entered there
abbrev pub HasNoEntry : List ℕ → ℕ → ℕ → Type 0
HasNoEntry index from to = (i : ℕ) → from ≤ i → i < to → slice_index index i ≡ 0

-- of these blocks, which were found below `free`, the link of the node x is the next to follow
abbrev pub IsNextNode : Setting → List LinkedBlock → List ℕ → Table → ℕ → ℕ → Type 0
IsNextNode s bs words t x free = IsSetting s × (length words ≡ end_of s)
    × Scanned s words t x free bs × (is_node (root_at s) bs x ≡ true)

-- some blocks were found below `free`, and the link of their node x is the next to follow
abbrev pub HasNextNode : List ℕ → Table → ℕ → ℕ → Type 0
HasNextNode words t x free =
    (s : Setting) × (bs : List LinkedBlock) × IsNextNode s bs words t x free

-- Whatever was found before: if x is the root before any block, or a node of the block found last,
-- and the site tells what stands there, then the link of x is followed, or the words are linked by
-- no blocks. The answer says which.
abbrev pub FollowsLink : List ℕ → Table → Table → ℕ → ℕ → Site → Bool → Type 0
FollowsLink words before after x free p answer = (s : Setting) (bs : List LinkedBlock)
    → IsNextNode s bs words before x free → IsInLastBlock s free bs x
    → site_state p ≡ node_state s bs x
    → MatchBool answer (Scanned s words after (x + 1) free bs) (AreUnlinked s words)

-- a block that begins at `at` and ends at `end` was found last, and none of its links is followed
abbrev pub IsFoundLast : List ℕ → Table → ℕ → ℕ → Type 0
IsFoundLast words t at end = (s : Setting) × (b : LinkedBlock) × (bs : List LinkedBlock)
    × IsEntered s words t (at + HEADER_WORDS) at end b bs

-- Whatever was found before: all links of the block found last are followed, or the words are
-- linked by no blocks. The answer says which.
abbrev pub FollowsLinks : List ℕ → Table → Table → ℕ → ℕ → Bool → Type 0
FollowsLinks words before after at end answer =
    (s : Setting) (b : LinkedBlock) (bs : List LinkedBlock)
    → IsEntered s words before (at + HEADER_WORDS) at end b bs
    → MatchBool answer (IsEntered s words after end at end b bs) (AreUnlinked s words)

-- the words below `at` are scanned, and the table has the blocks found there
abbrev pub IsScanned : Setting → List ℕ → Table → ℕ → Type 0
IsScanned s words t at = (bs : List LinkedBlock) × Scanned s words t at at bs

-- Whatever was found below `at`: the words are scanned up to the answer, which is behind `at`; or
-- there is none, and the words are linked by no blocks.
abbrev pub PassesBlock : Setting → List ℕ → Table → Table → ℕ → Option ℕ → Type 0
PassesBlock s words before after at answer = (bs : List LinkedBlock)
    → Scanned s words before at at bs
    → MatchOption answer (AreUnlinked s words)
    (λ to. (at < to) × (to ≤ end_of s) × IsScanned s words after to)

-- no block is found yet, and of the links that of the root alone is followed
abbrev pub IsScanBegun : Setting → List ℕ → Table → Type 0
IsScanBegun s words t = Scanned s words t (area_at s) (area_at s) []

-- the words are linked by blocks, and the table has the site of each
abbrev pub IsLinkTable : Setting → List ℕ → Table → Type 0
IsLinkTable s words t = (bs : List LinkedBlock) × IsLinked s words t bs
