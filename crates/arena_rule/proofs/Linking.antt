-- Each step keeps Linked and Known: a Publish that wins adds a block to the linked ones, one that
-- loses adds none.
use Rattle.std.proofs.Common.{◌≡◌, ◌≢◌, ℕ, ◌+◌, ◌-◌, ◌*◌, ◌<◌, ◌≤◌, Bool, true, false, cond, List}
use Rattle.std.proofs.Common.{◌∷◌, length, set, Option, Some, None, refl, sym, ap, ◌∙◌, subst}
use Rattle.std.proofs.Common.{⊎_elim, inl, arith, get_or-set_same, get_or-set_other}
use Rattle.std.specs.Prelude.{◌==◌, slice_index, nat_lt, nat_le, ◌&&◌, not}
use Rattle.std.proofs.lemmas.Bool.Decides.{nat_tests}
use Rattle.std.proofs.lemmas.List.{set-get_or}
use Rattle.std.proofs.lemmas.List.FromFn.{get_or-map-range_with_len}
use Rattle.play_out.specs.Fills.{empties_of}
use Rattle.tree_words.specs.Words.{root_at, next_in}
use Rattle.tree_words.specs.Blocks.{LinkedBlock, In, Follows, HaveBlocks, covers, has_node, is_node}
use Rattle.tree_words.specs.Blocks.{link_of, size, is_header_or_move, header_or_move}
use Rattle.tree_words.specs.Paths.{NodeState, node_state, node_board}
use Rattle.tree_words.specs.Complete.{AreComplete, IsComplete, HasEmpties, allowed_cells}
use Rattle.tree_words.specs.Told.{Knows}
use Rattle.tree_words.specs.declared.steps.Op.{Op}
use Rattle.tree_words.specs.declared.steps.Op.TheVariants.{Draw, Look, Claim, Write, Publish, Add}
use Rattle.tree_words.specs.declared.steps.Op.TheVariants.{Note, Done}
use Rattle.tree_words.proofs.Walks.Asking.{spot-size}
use Rattle.tree_words.proofs.Blocks.BlockLaws.{apart, covers_if, has-at, clash, root_node}
use Rattle.tree_words.proofs.Blocks.NodeLaws.{complete-more, link-none, stays-clear, stays-not}
use Rattle.tree_words.proofs.Boards.SetNumbers.{set-has_empties}
use Rattle.tree_words.proofs.Blocks.Within.{knows-more, told-real}
use Rattle.arena_rule.specs.Views.{SeatView, HeldBlock}
use Rattle.arena_rule.specs.Lookups.{is_held, is_known, known_link, told_below}
use Rattle.arena_rule.specs.Fits.{FitsStep, FitsPublish, block_words}
use Rattle.arena_rule.specs.Afters.{after, node_of_link, known_after, looked, wrote, published}
use Rattle.arena_rule.specs.Afters.{added_at, noted, with_word}
use Rattle.arena_rule.specs.Parts.{AreLinked, Known}
use Rattle.arena_rule.specs.Rule.{words_after, views_after}
use Rattle.arena_rule.proofs.Before.{Before, blocks_after}
use Rattle.arena_rule.proofs.Totals.{each-set}
use Rattle.arena_rule.proofs.Changes.{drew_same, claimed_same}
use Rattle.arena_rule.proofs.Within.{known-node, known-state}
use Rattle.arena_rule.proofs.Frames.{IsNoPublish, block-stays, held-clear, held-claimed, held-node}
use Rattle.arena_rule.proofs.Frames.{link-stays, next-grows, node-range, root-stays}
use Rattle.arena_rule.proofs.Apart.{node-back, told-held}
use Rattle.std.proofs.lemmas.Bool.{cases_Bool, or_cases, eqb-true, ltb-true, ne_eqb, eq-eqb}
use Rattle.std.proofs.lemmas.Bool.{and_parts, false_from_ne_true}

-- the words of a block that is not linked yet
block-word : (d : LinkedBlock) (j : ℕ) → j < size d
    → slice_index (block_words d) j ≡ cond (is_header_or_move j) (header_or_move d j) 0
unfolding block_words
block-word d j l
    = get_or-map-range_with_len (λ i. cond (is_header_or_move i) (header_or_move d i) 0) 0
    (size d) j j 0 l (omega arith)

module _ (bs : List LinkedBlock) (words : List ℕ) (views : List SeatView) (id : ℕ) (v : SeatView)
    (b : Before bs words views id v) where
  linked-kept : (op : Op) → FitsStep v op → IsNoPublish op
      → AreLinked v.shape bs (words_after words op)
  linked-kept op fits kind =
      let old : AreLinked v.shape bs words = b.state.linked in
      record {
        blocks = record {
          order = old.blocks.order;
          shows = record {
            blocks = λ c i n l st. block-stays bs words views id v b op c i fits n l st
                ∙ old.blocks.shows.blocks c i n l st;
            links = λ x n. link-stays bs words views id v b op x fits kind n
                ∙ old.blocks.shows.links x n;
          };
          complete = complete-more v.shape (next_in words) (next_in (words_after words op)) bs
              (next-grows bs words views id v b op fits) old.blocks.complete;
        };
        nodes = old.nodes;
        link = link-stays bs words views id v b op (root_at v.shape) fits kind
            (root_node (root_at v.shape) bs) ∙ old.link;
        move = root-stays bs words views id v b op fits ∙ old.move;
      }

  -- a Publish that wins: the told block follows the linked ones
  module _ (l c : ℕ) (fits : FitsPublish v l c) (free : slice_index words l ≡ 0) where
    abbrev x : ℕ
    x = fits.node

    abbrev new : LinkedBlock
    new = told_below v fits.node c

    node : is_node (root_at v.shape) bs x ≡ true
    node = known-node bs words views id v b id v x b.at fits.may.known

    -- its words are those of the held block
    mine : (i : ℕ) → covers i new ≡ true → is_held v.held i ≡ true
    mine i h = sym (told-held v l c fits i)
        ∙ ap (λ (z : ℕ). covers i (told_below v z c)) (node-back v l c fits) ∙ h

    covered : (i : ℕ) → i < size new → covers (c + i) new ≡ true
    covered i h = covers_if (c + i) new (omega arith) (omega (arith, h))

    vacant : link_of bs x ≡ 0
    vacant = sym (b.state.linked.blocks.shows.links x node)
        ∙ ap (slice_index words) (sym fits.link) ∙ free

    follows : Follows (root_at v.shape) new bs
    follows = record {
      parent = node;
      vacant = vacant;
      above = fits.above;
      clear = λ i h. held-clear bs words views id v b id v i b.at (mine i h);
      root = omega (arith, (held-claimed bs words views id v b id v (c + 0) b.at (mine (c + 0) (covered 0 (omega arith)))).0);
    }

    -- the published link is no word of the new block
    not-mine : (i : ℕ) → covers i new ≡ true → i ≢ l
    not-mine i h e = held-node bs words views id v b id v x 1 b.at node (omega arith)
        (ap (is_held v.held) (sym fits.link) ∙ ap (is_held v.held) (sym e) ∙ mine i h)

    -- what was written stands there
    written-word : (i : ℕ) → i < size new
        → slice_index (set words l c) (c + i) ≡ cond (is_header_or_move i) (header_or_move new i) 0
    written-word i h =
        let here : covers (c + i) new ≡ true = covered i h in
        let long : i < fits.block.size
        = inside (c + i) i refl
        (sym (ap (λ (o : Option HeldBlock). is_held o (c + i)) fits.held) ∙ mine (c + i) here) in
        get_or-set_other words l (c + i) c 0 (λ e. not-mine (c + i) here e)
        ∙ ap (λ (z : ℕ). slice_index words (z + i)) (sym fits.start)
        ∙ (b.state.held id v b.at fits.block fits.held).each i long
        ∙ ap (λ (ws : List ℕ). slice_index ws i) fits.written
        ∙ block-word new i h
      where
        inside : (w i : ℕ) → w ≡ c + i → is_held (Some fits.block) w ≡ true → i < fits.block.size
        inside w i e h
            = let t = and_parts (nat_le fits.block.start w)
            (nat_lt w (fits.block.start + fits.block.size)) h in let low = fits.start in
            omega (arith, ltb-true w (fits.block.start + fits.block.size) t.1)

    old-link : (y : ℕ) → is_node (root_at v.shape) bs y ≡ true
        → slice_index (set words l c) (y + 1) ≡ link_of (new ∷ bs) y
    old-link y n = ⊎_elim
        (λ (e : (x == y) ≡ true).
        let at : y + 1 ≡ l = omega (arith, fits.link, eqb-true x y e) in
        ap (slice_index (set words l c)) at
        ∙ get_or-set_same words l c 0
        (omega (arith, at, b.state.long, (node-range bs words views id v b y 1 n (omega arith)).1))
        ∙ sym (ap (λ (t : Bool). cond t c (link_of bs y)) e))
        (λ (e : (x == y) ≡ false).
        get_or-set_other words l (y + 1) c 0
        (λ q. clash (x == y) (eq-eqb x y (omega (arith, q, fits.link))) e)
        ∙ b.state.linked.blocks.shows.links y n
        ∙ sym (ap (λ (t : Bool). cond t c (link_of bs y)) e))
        (cases_Bool (x == y))

    new-link : (y : ℕ) → has_node new y ≡ true
        → slice_index (set words l c) (y + 1) ≡ link_of (new ∷ bs) y
    new-link y h =
        let t = has-at new y h in
        let k : ℕ = t.0 in
        let above = fits.above in
        let at : y + 1 ≡ c + (4 + 4 * k + 1) = omega (arith, t.2) in
        let out : is_node (root_at v.shape) bs y ≡ false
        = false_from_ne_true (is_node (root_at v.shape) bs y)
        (λ n. clash (has_node new y) h (apart (root_at v.shape) new bs y follows n)) in
        ap (slice_index (set words l c)) at ∙ written-word (4 + 4 * k + 1) (omega (arith, t.1))
        ∙ ap (λ (u : Bool). cond u (header_or_move new (4 + 4 * k + 1)) 0)
        (stays-not k 1 (omega arith) (omega arith))
        ∙ sym (ap (λ (u : Bool). cond u c (link_of bs y)) (ne_eqb x y (λ e. omega (arith, e, t.2)))
        ∙ link-none (root_at v.shape) bs y b.state.linked.blocks.order out)

    shows : HaveBlocks (root_at v.shape) (new ∷ bs) (set words l c)
    shows = record {
      blocks = λ d i n h st. ⊎_elim
          (λ (e : d ≡ new). subst (λ (z : LinkedBlock). slice_index (set words l c) (z.start + i) ≡ header_or_move z i) (sym e)
          (written-word i (subst (λ (z : LinkedBlock). i < size z) e h) ∙ ap (λ (u : Bool). cond u (header_or_move new i) 0) st))
          (λ (m : In d bs).
          get_or-set_other words l (d.start + i) c 0
          (λ e. stays-clear (root_at v.shape) bs d i x 1 b.state.linked.blocks.order m h st node (omega arith) (omega arith) (e ∙ fits.link))
          ∙ b.state.linked.blocks.shows.blocks d i m h st)
          n;
      links = λ y n. ⊎_elim (λ (h : has_node new y ≡ true). new-link y h)
          (λ (m : is_node (root_at v.shape) bs y ≡ true). old-link y m)
          (or_cases (has_node new y) (is_node (root_at v.shape) bs y) n);
    }

    complete : IsComplete v.shape (next_in words) bs new
    complete =
        let last : ℕ = size new - 1 in
        let t = held-claimed bs words views id v b id v (c + last) b.at
        (mine (c + last) (covered last (omega arith))) in
        let low = (held-claimed bs words views id v b id v (c + 0) b.at (mine (c + 0) (covered 0 (omega arith)))).0 in
        let under = t.1 in
        let within = t.2 in
        let same : node_state v.shape v.known x ≡ node_state v.shape bs x
        = known-state bs words views id v b id v x b.at fits.may.known in
        let few : (node_board v.shape v.known x).size ≤ 11
        = omega (arith, b.state.setting.position.most, spot-size v.shape v.known x) in
        record {
          claimed = omega arith;
          inside = (omega arith, omega arith);
          empties = subst (λ (p : NodeState). HasEmpties new.empties p.board) same
              (set-has_empties (node_board v.shape v.known x) few);
          cells = ap (λ (p : NodeState). cond (x == root_at v.shape) (allowed_cells v.shape) (empties_of p.board)) same;
        }

    linked : AreLinked v.shape (new ∷ bs) (set words l c)
    linked =
        let old : AreLinked v.shape bs words = b.state.linked in
        let r : ℕ = root_at v.shape in
        let next : next_in (set words l c) ≡ next_in words
        = get_or-set_other words l 0 c 0 (λ e. omega (arith, e, fits.link)) in
        let some : 0 < length new.cells
        = omega (
          arith,
          ap (λ (t : Bool). length (cond t (allowed_cells v.shape) (empties_of (node_board v.shape v.known x)))) (ne_eqb x r fits.may.below),
          fits.may.some,
        ) in
        record {
          blocks = record {
            order = (follows, old.blocks.order);
            shows = shows;
            complete = subst (λ (n : ℕ). IsComplete v.shape n bs new × AreComplete v.shape n bs)
                (sym next) (complete, old.blocks.complete);
          };
          nodes = (some, old.nodes);
          link = get_or-set_other words l (r + 1) c 0
              (λ e. fits.may.below (omega (arith, e, fits.link))) ∙ old.link;
          move = get_or-set_other words l r c 0
              (λ e. absurd (omega (arith, e, fits.link, (node-range bs words views id v b x 0 node (omega arith)).0))) ∙ old.move;
        }

  linked-publish : (l c : ℕ) → FitsPublish v l c
      → AreLinked v.shape (blocks_after bs words v (Publish l c)) (words_after words (Publish l c))
  linked-publish l c fits = by (slice_index words l == 0) refl
    where
      by : (t : Bool) → (slice_index words l == 0) ≡ t
          → AreLinked v.shape (cond t (told_below v (node_of_link l) c ∷ bs) bs)
          (set words l (cond t c (slice_index words l)))
      by true e = subst (λ (z : ℕ). AreLinked v.shape (told_below v z c ∷ bs) (set words l c))
          (sym (node-back v l c fits)) (linked l c fits (eqb-true (slice_index words l) 0 e))
      by false e = subst (AreLinked v.shape bs) (sym (set-get_or words l 0)) b.state.linked

  pub linked-step : (op : Op) → FitsStep v op → AreLinked v.shape (blocks_after bs words v op)
      (words_after words op)
  linked-step Draw fits = linked-kept Draw fits tt
  linked-step (Look i) fits = linked-kept (Look i) fits tt
  linked-step (Claim many) fits = linked-kept (Claim many) fits tt
  linked-step (Write i value) fits = linked-kept (Write i value) fits tt
  linked-step (Publish l c) fits = linked-publish l c fits
  linked-step (Add i won) fits = linked-kept (Add i won) fits tt
  linked-step (Note k value) fits = linked-kept (Note k value) fits tt
  linked-step Done fits = linked-kept Done fits tt

  -- the blocks that are known after a link was found
  known-found : (ls : List LinkedBlock) (x y : ℕ) → Knows (root_at v.shape) ls v.known
      → (is_known v x ≡ true → 0 < y → In (told_below v x y) ls)
      → Knows (root_at v.shape) ls (known_after v x y)
  unfolding known_after
  known-found ls x y old is = by (is_known v x && (known_link v x == 0 && not (y == 0))) refl
    where
      positive : (t u : Bool) (y : ℕ) → (t && (u && not (y == 0))) ≡ true → (t ≡ true) × (0 < y)
      positive t u y e = grind (arith, nat_tests)

      by : (t : Bool) → (is_known v x && (known_link v x == 0 && not (y == 0))) ≡ t
          → Knows (root_at v.shape) ls (cond t (told_below v x y ∷ v.known) v.known)
      by true e = let p = positive (is_known v x) (known_link v x == 0) y e in
          (is p.0 p.1, p.0, old)
      by false e = old

  -- a link that is found and is not 0 names a linked block
  found-linked : (i : ℕ) → is_known v (node_of_link i) ≡ true → 0 < slice_index words i
      → In (told_below v (node_of_link i) (slice_index words i)) bs
  found-linked i n l =
      let x : ℕ = node_of_link i in
      let m : is_node (root_at v.shape) bs x ≡ true
      = known-node bs words views id v b id v x b.at n in
      let low = (node-range bs words views id v b x 0 m (omega arith)).0 in
      let at : x + 1 ≡ i = omega arith in
      told-real v.shape words bs v.known x (slice_index words i) b.state.linked.blocks
      (b.state.known id v b.at) n b.state.setting.position.most (ap (slice_index words) at) l

  -- the other views know what they knew
  known-set : (u : SeatView) (ls : List LinkedBlock)
      → ((w : SeatView) → Knows (root_at v.shape) bs w.known → Knows (root_at v.shape) ls w.known)
      → Knows (root_at v.shape) ls u.known → Known v.shape ls (set views id u)
  known-set u ls more mine
      = each-set (λ (w : SeatView). Knows (root_at v.shape) ls w.known) views id u
      (λ j w ne e. more w (b.state.known j w e)) mine

  known-publish : (l c : ℕ) → FitsPublish v l c
      → Known v.shape (blocks_after bs words v (Publish l c))
      (views_after words views id v (Publish l c))
  unfolding with_word published
  known-publish l c fits = by (slice_index words l == 0) refl
    where
      x : ℕ
      x = node_of_link l

      mine : Knows (root_at v.shape) bs v.known
      mine = b.state.known id v b.at

      by : (t : Bool) → (slice_index words l == 0) ≡ t
          → Known v.shape (cond t (told_below v x c ∷ bs) bs)
          (set views id (with_word l (cond t c (slice_index words l)) (record v { known = known_after v x (cond t c (slice_index words l)); held = None })))
      by true e = known-set (with_word l c (record v { known = known_after v x c; held = None }))
          (told_below v x c ∷ bs)
          (λ w k. knows-more (root_at v.shape) (told_below v x c) bs w.known k)
          (known-found (told_below v x c ∷ bs) x c (knows-more (root_at v.shape) (told_below v x c) bs v.known mine) (λ n h. inl refl))
      by false e = known-set
          (with_word l (slice_index words l) (record v { known = known_after v x (slice_index words l); held = None })) bs
          (λ w k. k) (known-found bs x (slice_index words l) mine (found-linked l))

  pub known-step : (op : Op) → FitsStep v op
      → Known v.shape (blocks_after bs words v op) (views_after words views id v op)
  unfolding with_word looked wrote published added_at noted
  known-step Draw fits = known-set (after v Draw (slice_index words 1)) bs (λ w k. k)
      (subst (Knows (root_at v.shape) bs) (sym (drew_same (λ u. u.known) v (slice_index words 1) refl refl)) (b.state.known id v b.at))
  known-step (Look i) fits = known-set (after v (Look i) (slice_index words i)) bs (λ w k. k)
      (known-found bs (node_of_link i) (slice_index words i) (b.state.known id v b.at) (found-linked i))
  known-step (Claim many) fits = known-set (after v (Claim many) (slice_index words 0)) bs
      (λ w k. k) (subst (Knows (root_at v.shape) bs) (sym (claimed_same (λ u. u.known) v many (slice_index words 0) refl refl)) (b.state.known id v b.at))
  known-step (Write i value) fits = known-set (after v (Write i value) 0) bs (λ w k. k)
      (b.state.known id v b.at)
  known-step (Publish l c) fits = known-publish l c fits
  known-step (Add i won) fits = known-set (after v (Add i won) (slice_index words i)) bs (λ w k. k)
      (b.state.known id v b.at)
  known-step (Note k value) fits = known-set (after v (Note k value) 0) bs (λ w q. q)
      (b.state.known id v b.at)
  known-step Done fits = known-set (after v Done (slice_index words 0)) bs (λ w k. k)
      (b.state.known id v b.at)
