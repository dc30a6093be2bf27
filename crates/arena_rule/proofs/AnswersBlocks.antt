-- What is answered at a link, at a header or move word, and to a Claim.
use Rattle.std.proofs.Common.{◌≡◌, ◌≢◌, ℕ, ◌+◌, ◌<◌, ◌≤◌, Bool, true, false, cond, List, [], ◌∷◌}
use Rattle.std.proofs.Common.{Option, Some, refl, sym, ap, ◌∙◌, subst, ⊎_elim, inl, inr, arith}
use Rattle.std.specs.Prelude.{◌==◌, slice_index, sum_by}
use Rattle.std.proofs.lemmas.Bool.{cases_eq, cases_Bool, eqb-true, ne_eqb, eq-eqb}
use Rattle.std.proofs.lemmas.Bool.{false_from_ne_true}
use mathlib.Core.Option.{some}
use lib.ListN.{get_elem?}
use Rattle.tree_words.specs.Settings.{Setting}
use Rattle.tree_words.specs.Words.{root_at, area_at, end_of, next_in, link_in}
use Rattle.tree_words.specs.Blocks.{LinkedBlock, In, InOrder, one_if, covers, cover, is_node}
use Rattle.tree_words.specs.Blocks.{link_of, size, is_header_or_move, header_or_move}
use Rattle.tree_words.specs.Told.{Knows}
use Rattle.tree_words.proofs.Blocks.BlockLaws.{cover-cons, covers_if, clash}
use Rattle.tree_words.proofs.Blocks.GameLaws.{IsWhole, in-parent, whole-in}
use Rattle.tree_words.proofs.Blocks.Within.{told-real}
use Rattle.arena_rule.specs.Views.{SeatView, HeldBlock}
use Rattle.arena_rule.specs.Lookups.{is_held, is_known, known_link, told_below}
use Rattle.arena_rule.specs.Fits.{FitsClaim}
use Rattle.arena_rule.specs.Answers.{AnswersLink, AnswersClaim, MayLieBelow}
use Rattle.arena_rule.specs.Parts.{held_at, full_width, width_of}
use Rattle.arena_rule.specs.Rule.{IsState}
use Rattle.arena_rule.proofs.Before.{Before}
use Rattle.arena_rule.proofs.Totals.{total_at, total_le}
use Rattle.tree_words.proofs.Blocks.OneTree.{knows-in}
use Rattle.arena_rule.proofs.Frames.{claimed-low, claimed-one, held-clear, in-range, next-area}
use Rattle.tree_words.proofs.Blocks.NodeLaws.{covers-one, in-cover}
use Rattle.tree_words.proofs.Walks.Countings.{cond-most}

-- blocks that have no word i
cover-none : (ks : List LinkedBlock) (i : ℕ) → ((c : LinkedBlock) → In c ks → covers i c ≢ true)
    → cover i ks ≡ 0
cover-none [] i h = refl
cover-none (c ∷ ks) i h
    = omega (arith, cover-cons i c ks, ap one_if (false_from_ne_true (covers i c) (h c (inl refl))), cover-none ks i (λ d n. h d (inr n)))

-- the link of a block's parent names the block
link-in : (r : ℕ) (bs : List LinkedBlock) (c : LinkedBlock) → InOrder r bs → In c bs → 0 < c.start
    → link_of bs c.parent ≡ c.start
link-in r [] c g n l = absurd n
link-in r (d ∷ bs) c g n l = ⊎_elim
    (λ (e : c ≡ d).
    ap (λ (u : Bool). cond u d.start (link_of bs c.parent))
    (eq-eqb d.parent c.parent (ap (λ (z : LinkedBlock). z.parent) (sym e)))
    ∙ ap (λ (z : LinkedBlock). z.start) (sym e))
    (λ (m : In c bs).
    let h : link_of bs c.parent ≡ c.start = link-in r bs c g.1 m l in
    let other : (d.parent == c.parent) ≡ false
    = ne_eqb d.parent c.parent
    (λ z. let none : link_of bs c.parent ≡ 0 = ap (link_of bs) (sym z) ∙ g.0.vacant in omega (arith, h, none, l)) in
    ap (λ (u : Bool). cond u d.start (link_of bs c.parent)) other ∙ h)
    n

-- a link that is not 0 names a linked block
link-cover : (bs : List LinkedBlock) (x : ℕ) → 0 < link_of bs x → 0 < cover (link_of bs x) bs
link-cover [] x l = absurd (omega arith)
link-cover (c ∷ bs) x l = ⊎_elim
    (λ (e : (c.parent == x) ≡ true).
    let at : link_of (c ∷ bs) x ≡ c.start = ap (λ (u : Bool). cond u c.start (link_of bs x)) e in
    omega (arith, cover-cons (link_of (c ∷ bs) x) c bs, ap one_if (ap (λ (z : ℕ). covers z c) at ∙ covers_if c.start c (omega arith) (omega arith))))
    (λ (e : (c.parent == x) ≡ false).
    let at : link_of (c ∷ bs) x ≡ link_of bs x
    = ap (λ (u : Bool). cond u c.start (link_of bs x)) e in
    let rest : 0 < cover (link_of bs x) bs = link-cover bs x (omega (arith, l, at)) in
    omega (arith, rest, ap (λ (z : ℕ). cover z bs) at, cover-cons (link_of (c ∷ bs) x) c bs))
    (cases_Bool (c.parent == x))

-- what the linked blocks of a state tell
module _ (s : Setting) (bs : List LinkedBlock) (words : List ℕ) (views : List SeatView)
    (state : IsState s bs words views) where
  whole : (c : LinkedBlock) → In c bs → IsWhole s (next_in words) bs c
  whole c n = whole-in s
      (next_in words) bs c state.linked.blocks.order state.linked.blocks.complete n

  linked-in : (c : LinkedBlock) → In c bs → link_in words c.parent ≡ c.start
  linked-in c n =
      state.linked.blocks.shows.links c.parent
      (in-parent (root_at s) bs c state.linked.blocks.order n)
      ∙ link-in (root_at s) bs c state.linked.blocks.order n (omega (arith, (whole c n).above))

  -- the link that is known is the one in the words
  known-link : (ks : List LinkedBlock) (x : ℕ) → Knows (root_at s) bs ks → 0 < link_of ks x
      → link_in words x ≡ link_of ks x
  known-link [] x k l = absurd (omega arith)
  known-link (c ∷ ks) x k l = ⊎_elim
      (λ (e : (c.parent == x) ≡ true). ap (link_in words) (sym (eqb-true c.parent x e)) ∙ linked-in c k.0
      ∙ sym (ap (λ (u : Bool). cond u c.start (link_of ks x)) e))
      (λ (e : (c.parent == x) ≡ false).
      let at : link_of (c ∷ ks) x ≡ link_of ks x
      = ap (λ (u : Bool). cond u c.start (link_of ks x)) e in
      known-link ks x k.2 (omega (arith, l, at)) ∙ sym at)
      (cases_Bool (c.parent == x))

  -- if no link is known, no block below is
  link-none : (ks : List LinkedBlock) (x : ℕ) (c : LinkedBlock) → Knows (root_at s) bs ks
      → link_of ks x ≡ 0 → In c ks → c.parent ≢ x
  link-none [] x c k z n e = n
  link-none (d ∷ ks) x c k z n e = ⊎_elim
      (λ (q : (d.parent == x) ≡ true). absurd (omega (arith, z, ap (λ (u : Bool). cond u d.start (link_of ks x)) q, (whole d k.0).above)))
      (λ (q : (d.parent == x) ≡ false). ⊎_elim
      (λ (m : c ≡ d). absurd (clash (d.parent == x) (eq-eqb d.parent x (ap (λ (a : LinkedBlock). a.parent) (sym m) ∙ e)) q))
      (λ (m : In c ks). link-none ks x c k.2 (sym (ap (λ (u : Bool). cond u d.start (link_of ks x)) q) ∙ z) m e)
      n)
      (cases_Bool (d.parent == x))

  -- No link of a node names a held block.
  pub held_unnamed : (j : ℕ) (u : SeatView) (h : HeldBlock) (x : ℕ) → get_elem? views j ≡ some u
      → u.held ≡ Some h → is_node (root_at s) bs x ≡ true → link_in words x ≢ h.start
  held_unnamed j u h x at e n q =
      let mine : is_held u.held h.start ≡ true = ap (λ (o : Option HeldBlock). is_held o h.start) e
      ∙ in-range h.start h.size h.start (omega arith)
      (omega (arith, (state.held j u at h e).some)) in
      let one : held_at h.start u ≡ 1 = ap one_if mine in
      let low = (claimed-low (area_at s) (next_in words) (end_of s) h.start (omega (
        arith,
        one,
        total_at (held_at h.start) views j u at,
        state.apart h.start,
      ))).0 in
      let link : link_of bs x ≡ h.start = sym (state.linked.blocks.shows.links x n) ∙ q in
      let named : 0 < cover h.start bs
      = subst (λ (z : ℕ). 0 < cover z bs) link (link-cover bs x (omega (arith, link))) in
      absurd (omega (
        arith,
        named,
        one,
        total_at (held_at h.start) views j u at,
        state.apart h.start,
        claimed-one (area_at s) (next_in words) (end_of s) h.start,
      ))

  -- A known block is what the words show: its parent's link names it, and its header and moves
  -- stand there.
  pub known_shown : (j : ℕ) (u : SeatView) (c : LinkedBlock) → get_elem? views j ≡ some u
      → In c u.known
      → (link_in words c.parent ≡ c.start)
      × ((i : ℕ) → i < size c → is_header_or_move i ≡ true → slice_index words (c.start + i) ≡ header_or_move c i)
  known_shown j u c at n =
      let m : In c bs = knows-in (root_at s) bs u.known c (state.known j u at) n in
      (linked-in c m, λ i l st. state.linked.blocks.shows.blocks c i m l st)

module _ (bs : List LinkedBlock) (words : List ℕ) (views : List SeatView) (id : ℕ) (v : SeatView)
    (b : Before bs words views id v) where
  -- a block that is found below a known node without a known block
  below : (x : ℕ) → is_known v x ≡ true → known_link v x ≡ 0 → 0 < link_in words x
      → MayLieBelow v x (link_in words x)
  below x n z l =
      let r : ℕ = root_at v.shape in
      let d : LinkedBlock = told_below v x (link_in words x) in
      let known : Knows r bs v.known = b.state.known id v b.at in
      let m : In d bs
      = told-real v.shape words bs v.known x
      (link_in words x) b.state.linked.blocks known n b.state.setting.position.most refl l in
      let w : IsWhole v.shape (next_in words) bs d = whole v.shape bs words views b.state d m in
      record {
        above = w.above;
        inside = w.inside;
        apart = λ i h. cover-none v.known i
            (λ c k q. link-none v.shape bs words views b.state v.known x c known z k
            (ap (λ (a : LinkedBlock). a.parent) (covers-one r bs c d i b.state.linked.blocks.order (knows-in r bs v.known c known k) m q h)));
        held = λ i h. false_from_ne_true (is_held v.held i)
            (λ q. absurd (omega (arith, held-clear bs words views id v b id v i b.at q, in-cover bs d i m h)));
      }

  pub answers-link : (x : ℕ) → is_known v x ≡ true → AnswersLink v x (link_in words x)
  answers-link x n = record {
    root = λ e. ap (link_in words) e ∙ b.state.linked.link;
    known = λ l. known-link v.shape bs words views b.state v.known x (b.state.known id v b.at) l;
    other = λ z. ⊎_elim
        (λ (e : link_in words x ≡ 0). inl e)
        (λ (e : link_in words x ≢ 0). inr (below x n z (omega (arith, e))))
        (cases_eq (link_in words x) 0);
  }

  pub answers-block : (c : LinkedBlock) (j : ℕ) → In c v.known → j < size c
      → is_header_or_move j ≡ true → slice_index words (c.start + j) ≡ header_or_move c j
  answers-block c j n l st = (known_shown v.shape bs words views b.state id v c b.at n).1 j l st

  pub answers-claim : (many : ℕ) → FitsClaim v many → AnswersClaim v (next_in words)
  answers-claim many fits =
      let fewer : sum_by full_width views ≤ sum_by width_of views
      = total_le full_width width_of views (λ j u e. cond-most u.full u.width) in
      record {
        least = next-area bs words views id v b;
        most = omega (arith, b.state.widths.next, b.state.widths.sum, fewer, b.state.setting.ranges.workers.1);
        behind = λ c n. (whole v.shape bs words views b.state c (knows-in (root_at v.shape) bs v.known c (b.state.known id v b.at) n)).claimed;
      }
