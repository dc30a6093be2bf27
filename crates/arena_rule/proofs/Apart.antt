-- Each step keeps Fresh, Apart and Held.
use Rattle.std.proofs.Common.{◌≡◌, ◌≢◌, ℕ, zero, suc, ◌+◌, ◌<◌, ◌≤◌, Bool, true, false, cond, List}
use Rattle.std.proofs.Common.{[], ◌∷◌, ◌++◌, length, set, get_or, Option, Some, None, refl, sym, ap}
use Rattle.std.proofs.Common.{◌∙◌, subst, ⊎_elim, arith, length-append, get_or-set_same}
use Rattle.std.proofs.Common.{get_or-set_other}
use Rattle.std.specs.Prelude.{◌==◌, slice_index, sum_by, nat_lt, nat_le, ◌&&◌, option_map}
use Rattle.std.proofs.lemmas.Bool.{cases_eq, ne_eqb}
use Rattle.std.proofs.lemmas.Bool.Decides.{nat_tests}
use Rattle.std.proofs.lemmas.List.{set-get_or}
use Rattle.std.proofs.lemmas.Option.{none-some, same_Some}
use Rattle.std.proofs.Math.Seq.{get_or-append_seam}
use Rattle.play_out.specs.Fills.{empties_of}
use Rattle.tree_words.specs.Words.{root_at, area_at, end_of, next_in}
use Rattle.tree_words.specs.Blocks.{LinkedBlock, one_if, covers, cover, size, block_size}
use Rattle.tree_words.specs.Paths.{node_board}
use Rattle.tree_words.specs.Complete.{allowed_cells}
use Rattle.tree_words.specs.declared.steps.Op.{Op}
use Rattle.tree_words.specs.declared.steps.Op.TheVariants.{Draw, Look, Claim, Write, Publish, Add}
use Rattle.tree_words.specs.declared.steps.Op.TheVariants.{Note, Done}
use Rattle.tree_words.proofs.Blocks.BlockLaws.{cover-cons}
use Rattle.arena_rule.specs.Views.{SeatView, HeldBlock}
use Rattle.arena_rule.specs.Lookups.{is_held, told_below, empties_at}
use Rattle.arena_rule.specs.Fits.{FitsStep, FitsClaim, FitsWrite, FitsPublish}
use Rattle.arena_rule.specs.Afters.{word_of, answer_of, after, node_of_link, written_more, looked}
use Rattle.arena_rule.specs.Afters.{claimed_at, wrote, published, added_at, noted, with_word}
use Rattle.arena_rule.specs.Parts.{Fresh, AreApart, AreWritten, HasWritten, held_at, is_claimed}
use Rattle.arena_rule.specs.Rule.{words_after, views_after}
use Rattle.arena_rule.proofs.Before.{Before, blocks_after}
use Rattle.arena_rule.proofs.Totals.{total_set, each-set}
use Rattle.arena_rule.proofs.Changes.{drew_same, claimed_cases}
use Rattle.arena_rule.proofs.Frames.{in-range, write-word, held-claimed, held-stays, note-low}
use Rattle.arena_rule.proofs.Frames.{fresh-stays, next-stays, next-claimed, next-grows, next-area}

-- the told block of a node other than the root has the size of a block for its empty cells
pub told-size : (v : SeatView) (x b : ℕ) → x ≢ root_at v.shape
    → size (told_below v x b) ≡ block_size (empties_at v x)
told-size v x b ne
    = ap (λ (t : Bool). block_size (length (cond t (allowed_cells v.shape) (empties_of (node_board v.shape v.known x))))) (ne_eqb x (root_at v.shape) ne)

-- the words of the area below NEXT, if NEXT grows
claimed-more : (low x y end i : ℕ) → x ≤ y
    → one_if (nat_le low i && (nat_lt i x && nat_lt i end)) ≤ one_if
    (nat_le low i && (nat_lt i y && nat_lt i end))
claimed-more low x y end i h = grind (arith, nat_tests)

-- and if a block is claimed
claimed-block : (low x s end i : ℕ) → low ≤ x → x + s ≤ end
    → one_if (nat_le low i && (nat_lt i x && nat_lt i end)) + one_if
    (nat_le x i && nat_lt i (x + s)) ≤ one_if
    (nat_le low i && (nat_lt i (x + s) && nat_lt i end))
claimed-block low x s end i l h = grind (arith, nat_tests)

-- one word more behind a list changes nothing else
push-else : (l : List ℕ) (y j : ℕ) → j ≢ length l → get_or (l ++ y ∷ []) j 0 ≡ get_or l j 0
push-else [] y zero ne = absurd (ne refl)
push-else [] y (suc j) ne = refl
push-else (x ∷ l) y zero ne = refl
push-else (x ∷ l) y (suc j) ne = push-else l y j (λ e. ne (ap suc e))

-- the held block after a Write has the same words
held-more : (value i : ℕ) (o : Option HeldBlock)
    → is_held (option_map (written_more value) o) i ≡ is_held o i
held-more value i None = refl
held-more value i (Some h) = refl

-- the node whose link is published
pub node-back : (v : SeatView) (l c : ℕ) → (fits : FitsPublish v l c) → node_of_link l ≡ fits.node
node-back v l c fits = omega (arith, fits.link)

-- the block that is published has the words of the held block
pub told-held : (v : SeatView) (l c : ℕ) → FitsPublish v l c → (i : ℕ)
    → covers i (told_below v (node_of_link l) c) ≡ is_held v.held i
told-held v l c fits i =
    let at = node-back v l c fits in
    let many : size (told_below v (node_of_link l) c) ≡ fits.block.size
    = ap (λ (x : ℕ). size (told_below v x c)) at ∙ told-size v fits.node c fits.may.below
    ∙ sym fits.may.fits in
    (λ k. nat_le (sym fits.start k) i && nat_lt i (sym fits.start k + many k))
    ∙ sym (ap (λ (o : Option HeldBlock). is_held o i) fits.held)

module _ (bs : List LinkedBlock) (words : List ℕ) (views : List SeatView) (id : ℕ) (v : SeatView)
    (b : Before bs words views id v) where
  pub fresh-step : (op : Op) → FitsStep v op → Fresh v.shape (words_after words op)
  fresh-step op fits i low past high =
      let old : next_in words ≤ i = omega (arith, past, next-grows bs words views id v b op fits) in
      fresh-stays bs words views id v b op i fits low old ∙ b.state.fresh i low old high

  -- if nothing that Apart reads has changed
  apart-frame : (u : SeatView) (words' : List ℕ) → ((i : ℕ) → held_at i u ≡ held_at i v)
      → next_in words' ≡ next_in words → AreApart v.shape bs words' (set views id u)
  apart-frame u words' h n i
      = omega (
        arith,
        total_set (held_at i) views id v u b.at,
        b.state.apart i,
        h i,
        ap (λ (z : ℕ). one_if (nat_le (area_at v.shape) i && (nat_lt i z && nat_lt i (end_of v.shape)))) n,
      )

  apart-draw : (fits : FitsStep v Draw)
      → AreApart v.shape bs (words_after words Draw) (views_after words views id v Draw)
  unfolding with_word
  apart-draw fits = apart-frame (after v Draw (slice_index words 1)) (words_after words Draw)
      (λ i. drew_same (λ u. held_at i u) v (slice_index words 1) refl refl)
      (next-stays bs words views id v b Draw fits tt)

  apart-claim : (many : ℕ) → FitsClaim v many → AreApart v.shape bs (words_after words (Claim many))
      (views_after words views id v (Claim many))
  unfolding with_word
  apart-claim many fits i =
      let x : ℕ = next_in words in
      let u : SeatView = after v (Claim many) x in
      let sum = total_set (held_at i) views id v u b.at in
      let none : held_at i v ≡ 0 = ap (λ (o : Option HeldBlock). one_if (is_held o i)) fits.held in
      let next = ap (λ (z : ℕ). one_if (nat_le (area_at v.shape) i && (nat_lt i z && nat_lt i (end_of v.shape)))) (next-claimed bs words views id v b many) in
      let low = next-area bs words views id v b in
      ⊎_elim
      (λ (c : (x + many ≤ end_of v.shape) × (claimed_at v many x
      ≡ record v { held = Some (record { start = x; size = many; written = [] }); claimed = v.claimed + many })).
      let here : held_at i u ≡ one_if (nat_le x i && nat_lt i (x + many))
      = ap (λ (z : SeatView). held_at i z) c.1 in
      omega (arith, sum, none, here, next, b.state.apart i, claimed-block (area_at v.shape) x many (end_of v.shape) i low c.0))
      (λ (c : (end_of v.shape < x + many) × (claimed_at v many x ≡ record v { full = true })).
      let here : held_at i u ≡ held_at i v = ap (λ (z : SeatView). held_at i z) c.1 in
      omega (arith, sum, none, here, next, b.state.apart i, claimed-more (area_at v.shape) x (x + many) (end_of v.shape) i (omega arith)))
      (claimed_cases v many x)

  -- a Publish that wins: the words of the held block are those of the told block
  apart-publish : (l c : ℕ) → FitsPublish v l c
      → AreApart v.shape (blocks_after bs words v (Publish l c)) (words_after words (Publish l c))
      (views_after words views id v (Publish l c))
  unfolding with_word published
  apart-publish l c fits i = by (slice_index words l == 0)
    where
      u : SeatView
      u = after v (Publish l c) (slice_index words l)

      d : LinkedBlock
      d = told_below v (node_of_link l) c

      sum : sum_by (held_at i) (set views id u) + held_at i v ≡ sum_by
          (held_at i) views + held_at i u
      sum = total_set (held_at i) views id v u b.at

      none : held_at i u ≡ 0
      none = refl

      next : one_if (is_claimed v.shape (words_after words (Publish l c)) i) ≡ one_if
          (is_claimed v.shape words i)
      next = ap (λ (z : ℕ). one_if (nat_le (area_at v.shape) i && (nat_lt i z
          && nat_lt i (end_of v.shape)))) (next-stays bs words views id v b (Publish l c) fits tt)

      by : (t : Bool) → cover i (cond t (d ∷ bs) bs) + sum_by (held_at i) (set views id u) ≤ one_if
          (is_claimed v.shape (words_after words (Publish l c)) i)
      by true = omega (arith, sum, cover-cons i d bs, ap one_if (told-held v l c fits i), none, b.state.apart i, next)
      by false = omega (arith, sum, none, b.state.apart i, next)

  pub apart-step : (op : Op) → FitsStep v op
      → AreApart v.shape (blocks_after bs words v op) (words_after words op)
      (views_after words views id v op)
  unfolding with_word looked wrote published added_at noted
  apart-step Draw fits = apart-draw fits
  apart-step (Look i) fits = apart-frame (after v (Look i) (slice_index words i))
      (words_after words (Look i)) (λ j. refl) (next-stays bs words views id v b (Look i) fits tt)
  apart-step (Claim many) fits = apart-claim many fits
  apart-step (Write i value) fits
      = apart-frame (after v (Write i value) 0) (words_after words (Write i value))
      (λ j. ap one_if (held-more value j v.held))
      (next-stays bs words views id v b (Write i value) fits tt)
  apart-step (Publish l c) fits = apart-publish l c fits
  apart-step (Add i won) fits = apart-frame (after v (Add i won) (slice_index words i))
      (words_after words (Add i won)) (λ j. refl)
      (next-stays bs words views id v b (Add i won) fits tt)
  apart-step (Note k value) fits
      = apart-frame (after v (Note k value) 0) (words_after words (Note k value)) (λ j. refl)
      (next-stays bs words views id v b (Note k value) fits tt)
  apart-step Done fits = apart-frame (after v Done (slice_index words 0)) (words_after words Done)
      (λ j. refl) (next-stays bs words views id v b Done fits tt)

  -- a held block whose words stay
  held-same : (words' : List ℕ) (h : HeldBlock) → HasWritten words h
      → ((i : ℕ) → is_held (Some h) i ≡ true → slice_index words' i ≡ slice_index words i)
      → HasWritten words' h
  held-same words' h old same = record {
    some = old.some;
    fits = old.fits;
    each = λ j l. same (h.start + j)
        (in-range h.start h.size (h.start + j) (omega arith) (omega arith)) ∙ old.each j l;
  }

  -- the other views keep theirs
  held-set : (op : Op) → FitsStep v op
      → ((h : HeldBlock) → (after v op (answer_of op (slice_index words (word_of op)))).held ≡ Some h → HasWritten (words_after words op) h)
      → AreWritten (words_after words op) (views_after words views id v op)
  held-set op fits mine
      = each-set (λ (u : SeatView). (h : HeldBlock) → u.held ≡ Some h
      → HasWritten (words_after words op) h) views id (after v op (answer_of op (slice_index words (word_of op))))
      (λ j u ne e h q. held-same (words_after words op) h (b.state.held j u e h q)
      (λ i t. held-stays bs words views id v b op j u i fits ne e (ap (λ (o : Option HeldBlock). is_held o i) q ∙ t)))
      mine

  -- the view holds nothing
  held-none : (words' : List ℕ) (o : Option HeldBlock) → o ≡ None → (h : HeldBlock) → o ≡ Some h
      → HasWritten words' h
  held-none words' o n h e = absurd (none-some h (sym n ∙ e))

  held-claim : (many : ℕ) → FitsClaim v many → (h : HeldBlock)
      → (claimed_at v many (next_in words)).held ≡ Some h
      → HasWritten (words_after words (Claim many)) h
  held-claim many fits h e =
      let x : ℕ = next_in words in
      let low = next-area bs words views id v b in
      ⊎_elim
      (λ (c : (x + many ≤ end_of v.shape) × (claimed_at v many x
      ≡ record v { held = Some (record { start = x; size = many; written = [] }); claimed = v.claimed + many })).
      let new : HeldBlock = record { start = x; size = many; written = [] } in
      let inside = c.0 in
      subst (HasWritten (words_after words (Claim many)))
      (same_Some new h (sym (ap (λ (z : SeatView). z.held) c.1) ∙ e)) (record {
        some = omega (arith, fits.may.fits);
        fits = omega arith;
        each = λ j l. get_or-set_other words 0 (x + j) (x + many) 0 (λ q. omega (arith, q))
            ∙ b.state.fresh (x + j) (omega arith) (omega arith) (omega arith);
      }))
      (λ (c : (end_of v.shape < x + many) × (claimed_at v many x
      ≡ record v { full = true })). held-none (words_after words (Claim many)) v.held fits.held h (sym (ap (λ (z : SeatView). z.held) c.1) ∙ e))
      (claimed_cases v many x)

  held-write : (i value : ℕ) → FitsWrite v i → (h : HeldBlock)
      → option_map (written_more value) v.held ≡ Some h
      → HasWritten (words_after words (Write i value)) h
  held-write i value fits h e =
      let old : HeldBlock = fits.block in
      let new : HeldBlock = written_more value old in
      let was : HasWritten words old = b.state.held id v b.at old fits.held in
      let n : ℕ = length old.written in
      let left = fits.left in
      let in_words : i < length words
      = omega (arith, b.state.long, (write-word bs words views id v b i fits).2) in
      subst (HasWritten (words_after words (Write i value)))
      (same_Some new h (sym (ap (option_map (written_more value)) fits.held) ∙ e)) (record {
        some = was.some;
        fits = omega (arith, length-append old.written (value ∷ []));
        each = λ j l. ⊎_elim
            (λ (q : j ≡ n).
            let at : old.start + j ≡ i = omega (arith, q, fits.next) in
            ap (slice_index (words_after words (Write i value))) at
            ∙ get_or-set_same words i value 0 in_words
            ∙ sym (ap (λ (z : ℕ). get_or (old.written ++ value ∷ []) z 0) q ∙ get_or-append_seam old.written value [] 0))
            (λ (q : j ≢ n).
            get_or-set_other words i (old.start + j) value 0 (λ z. q (omega (arith, z, fits.next)))
            ∙ was.each j l ∙ sym (push-else old.written value j q))
            (cases_eq j n);
      })

  pub held-step : (op : Op) → FitsStep v op
      → AreWritten (words_after words op) (views_after words views id v op)
  unfolding with_word looked wrote published added_at noted
  held-step Draw fits
      = held-set Draw fits
      (held-none (words_after words Draw) (after v Draw (slice_index words 1)).held (drew_same (λ u. u.held) v (slice_index words 1) refl refl ∙ fits.held))
  held-step (Look i) fits
      = held-set (Look i) fits
      (λ h e. held-same (words_after words (Look i)) h (b.state.held id v b.at h e) (λ j t. ap (λ (ws : List ℕ). slice_index ws j) (set-get_or words i 0)))
  held-step (Claim many) fits = held-set (Claim many) fits (held-claim many fits)
  held-step (Write i value) fits = held-set (Write i value) fits (held-write i value fits)
  held-step (Publish l c) fits
      = held-set (Publish l c) fits (held-none (words_after words (Publish l c)) None refl)
  held-step (Add i won) fits
      = held-set (Add i won) fits (held-none (words_after words (Add i won)) v.held fits.held)
  held-step (Note k value) fits
      = held-set (Note k value) fits
      (λ h e. held-same (words_after words (Note k value)) h (b.state.held id v b.at h e) (λ j t.
      let low = (held-claimed bs words views id v b id v j b.at (ap (λ (o : Option HeldBlock). is_held o j) e ∙ t)).0 in
      get_or-set_other words (2 + k) j value 0
      (λ q. omega (arith, q, note-low bs words views id v b k value fits))))
  held-step Done fits
      = held-set Done fits
      (λ h e. held-same (words_after words Done) h (b.state.held id v b.at h e) (λ j t. ap (λ (ws : List ℕ). slice_index ws j) (set-get_or words 0 0)))
