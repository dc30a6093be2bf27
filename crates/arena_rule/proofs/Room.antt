-- Each step keeps Room.
use Rattle.std.proofs.Common.{◌≡◌, ◌≢◌, ◌⊎◌, ℕ, ◌+◌, ◌*◌, ◌<◌, ◌≤◌, Bool, true, false, cond, List}
use Rattle.std.proofs.Common.{[], ◌∷◌, set, Option, Some, None, refl, sym, ap, ◌∙◌, ⊎_elim, inl}
use Rattle.std.proofs.Common.{inr, arith}
use Rattle.std.specs.Prelude.{◌==◌, ◌&&◌, not, slice_index, sum_by, option_map}
use Rattle.std.proofs.Math.Nat.{mul-le-mul_left}
use Rattle.std.proofs.lemmas.Bool.{eqb-true, eq-eqb, ne_eqb}
use Rattle.std.proofs.lemmas.List.Sums.{sum_by-cons, sum_by-le-sum_by}
use Rattle.tree_words.specs.Words.{root_at, end_of, next_in}
use Rattle.tree_words.specs.Blocks.{LinkedBlock, In, link_of, size}
use Rattle.tree_words.specs.declared.steps.Op.{Op}
use Rattle.tree_words.specs.declared.steps.Op.TheVariants.{Draw, Look, Claim, Write, Publish, Add}
use Rattle.tree_words.specs.declared.steps.Op.TheVariants.{Note, Done}
use Rattle.tree_words.proofs.Blocks.BlockLaws.{clash}
use Rattle.tree_words.proofs.Blocks.Within.{told-real}
use Rattle.arena_rule.specs.Views.{SeatView, HeldBlock}
use Rattle.arena_rule.specs.Lookups.{is_known, known_link, told_below}
use Rattle.arena_rule.specs.Fits.{FitsStep, FitsClaim, FitsPublish}
use Rattle.arena_rule.specs.Afters.{word_of, answer_of, after, node_of_link, known_after}
use Rattle.arena_rule.specs.Afters.{claimed_at, written_more, with_word, looked, wrote, published}
use Rattle.arena_rule.specs.Afters.{added_at, noted}
use Rattle.arena_rule.specs.Parts.{full_width}
use Rattle.arena_rule.specs.Bounds.{Room, words_known, words_held, claimed_of}
use Rattle.arena_rule.specs.Rule.{words_after, views_after}
use Rattle.arena_rule.proofs.Options.{false-true}
use Rattle.arena_rule.proofs.Before.{Before, blocks_after}
use Rattle.arena_rule.proofs.Totals.{total_set, each-set}
use Rattle.arena_rule.proofs.Changes.{drew_same, claimed_cases, claimed_same, width-after}
use Rattle.arena_rule.proofs.Frames.{IsNoClaim, next-stays, next-claimed}
use Rattle.arena_rule.proofs.KnownMore.{Grows, known_cases}
use Rattle.arena_rule.proofs.Apart.{node-back, told-size}
use Rattle.arena_rule.proofs.Widths.{few-words}

-- the words of a block if its link is known and it is not the root's
abbrev counted : ℕ → List LinkedBlock → LinkedBlock → ℕ
counted r ks b = cond (not (b.parent == r) && not (link_of ks b.parent == 0)) (size b) 0

-- each link that is known over the first blocks is known over the others
abbrev pub KnowMore : List LinkedBlock → List LinkedBlock → Type 0
KnowMore ks ls = (x : ℕ) → link_of ls x ≡ 0 → link_of ks x ≡ 0

counted-le : (r : ℕ) (ks ls : List LinkedBlock) → KnowMore ks ls → (b : LinkedBlock)
    → counted r ks b ≤ counted r ls b
counted-le r ks ls h b = by (b.parent == r) (link_of ks b.parent == 0) (link_of ls b.parent == 0)
    (λ e. eq-eqb (link_of ks b.parent) 0 (h b.parent (eqb-true (link_of ls b.parent) 0 e))) (size b)
  where
    by : (t m n : Bool) → (n ≡ true → m ≡ true) → (z : ℕ)
        → cond (not t && not m) z 0 ≤ cond (not t && not n) z 0
    by true m n h z = omega arith
    by false true n h z = omega arith
    by false false true h z = absurd (false-true (h refl))
    by false false false h z = omega arith

-- the words of the known blocks
pub known-le : (r : ℕ) (ks ls bs : List LinkedBlock) → KnowMore ks ls
    → sum_by (counted r ks) bs ≤ sum_by (counted r ls) bs
known-le r ks ls bs h = sum_by-le-sum_by (counted r ks) (counted r ls) bs (counted-le r ks ls h)

-- a block whose link was not known and is now adds its words
known-new : (r : ℕ) (ks ls bs : List LinkedBlock) (c : LinkedBlock) → KnowMore ks ls → In c bs
    → c.parent ≢ r → link_of ks c.parent ≡ 0 → link_of ls c.parent ≢ 0
    → sum_by (counted r ks) bs + size c ≤ sum_by (counted r ls) bs
known-new r ks ls [] c h i ne z found = absurd i
known-new r ks ls (b ∷ bs) c h i ne z found = ⊎_elim
    (λ (e : c ≡ b).
    let before : counted r ks b ≡ 0 = ap (counted r ks) (sym e)
    ∙ none (not (c.parent == r)) (link_of ks c.parent == 0) (size c)
    (eq-eqb (link_of ks c.parent) 0 z) in
    let now : counted r ls b ≡ size b
    = (λ j. cond (not (is-other e j) && not (is-some e j)) (size b) 0) in
    omega (arith, sum_by-cons (counted r ks) b bs, sum_by-cons (counted r ls) b bs, before, now, ap size e, known-le r ks ls bs h))
    (λ (j : In c bs).
    omega (arith, sum_by-cons (counted r ks) b bs, sum_by-cons (counted r ls) b bs, counted-le r ks ls h b, known-new r ks ls bs c h j ne z found))
    i
  where
    none : (t u : Bool) (n : ℕ) → u ≡ true → cond (t && not u) n 0 ≡ 0
    none true true n e = refl
    none true false n e = absurd (false-true e)
    none false u n e = refl

    is-other : c ≡ b → (b.parent == r) ≡ false
    is-other e = ap (λ (d : LinkedBlock). d.parent == r) (sym e) ∙ ne_eqb c.parent r ne

    is-some : c ≡ b → (link_of ls b.parent == 0) ≡ false
    is-some e = ap (λ (d : LinkedBlock). link_of ls d.parent == 0) (sym e)
        ∙ ne_eqb (link_of ls c.parent) 0 found

-- a link that was known stays known
pub link-after : (v : SeatView) (x y : ℕ) → KnowMore v.known (known_after v x y)
link-after v x y z e = ⊎_elim
    (λ (g : Grows v x y). by (x == z) y (link_of v.known z) g.some (sym (ap (λ (ks : List LinkedBlock). link_of ks z) g.is) ∙ e))
    (λ (same : known_after v x y ≡ v.known). sym (ap (λ (ks : List LinkedBlock). link_of ks z) same) ∙ e)
    (known_cases v x y)
  where
    by : (t : Bool) (n m : ℕ) → n ≢ 0 → cond t n m ≡ 0 → m ≡ 0
    by true n m ne q = absurd (ne q)
    by false n m ne q = q

-- the told block is known, if no link was known and one is found
pub told-known : (v : SeatView) (x y : ℕ) → is_known v x ≡ true → known_link v x ≡ 0 → y ≢ 0
    → known_after v x y ≡ told_below v x y ∷ v.known
unfolding known_after
told-known v x y n z found =
    let a : (known_link v x == 0) ≡ true = eq-eqb (known_link v x) 0 z in
    let c : (y == 0) ≡ false = ne_eqb y 0 found in
    λ i. cond (n i && (a i && not (c i))) (told_below v x y ∷ v.known) v.known

module _ (bs : List LinkedBlock) (words : List ℕ) (views : List SeatView) (id : ℕ) (v : SeatView)
    (b : Before bs words views id v) where
  room : Room v.shape bs words views
  room = b.state.room

  -- if the view claims nothing and knows no less
  frame : (u : SeatView) (words' : List ℕ) → u.width ≡ v.width → u.claimed ≡ v.claimed
      → full_width u ≡ full_width v → words_held u.held ≡ words_held v.held → KnowMore v.known u.known
      → next_in words' ≡ next_in words → Room v.shape bs words' (set views id u)
  frame u words' w c f h more n =
      let known = mul-le-mul_left v.width (known-le (root_at v.shape) v.known u.known bs more) in
      let wide : v.width * words_known v.shape bs u ≡ u.width * words_known v.shape bs u
      = ap (λ (z : ℕ). z * words_known v.shape bs u) (sym w) in
      record {
        next = omega (arith, n, room.next, total_set claimed_of views id v u b.at, c, total_set full_width views id v u b.at, f);
        claimed = each-set
            (λ y. y.claimed ≤ y.width * words_known v.shape bs y + words_held y.held) views id u
            (λ j y _ e. room.claimed j y e)
            (omega (arith, c, h, room.claimed id v b.at, known, wide));
      }

  stays : (op : Op) → FitsStep v op → IsNoClaim op
      → (after v op (answer_of op (slice_index words (word_of op)))).claimed ≡ v.claimed
      → full_width (after v op (answer_of op (slice_index words (word_of op)))) ≡ full_width v
      → words_held
      (after v op (answer_of op (slice_index words (word_of op)))).held ≡ words_held v.held
      → KnowMore v.known (after v op (answer_of op (slice_index words (word_of op)))).known
      → Room v.shape bs (words_after words op) (views_after words views id v op)
  stays op fits kind c f h more =
      let x : ℕ = answer_of op (slice_index words (word_of op)) in
      frame (after v op x) (words_after words op) (width-after v op x) c f h more
      (next-stays bs words views id v b op fits kind)

  same-known : (ks : List LinkedBlock) → ks ≡ v.known → KnowMore v.known ks
  same-known ks e z q = sym (ap (λ (l : List LinkedBlock). link_of l z) e) ∙ q

  room-draw : FitsStep v Draw
      → Room v.shape bs (words_after words Draw) (views_after words views id v Draw)
  unfolding with_word
  room-draw fits =
      let x : ℕ = slice_index words 1 in
      stays Draw fits tt (drew_same (λ z. z.claimed) v x refl refl)
      (drew_same full_width v x refl refl) (drew_same (λ z. words_held z.held) v x refl refl)
      (same-known (after v Draw x).known (drew_same (λ z. z.known) v x refl refl))

  -- a claim inside the area counts in the view, and so does one past its end, once
  claimed : (u : SeatView) (n : ℕ) → FitsClaim v n → u.width ≡ v.width → u.known ≡ v.known
      → ((u.claimed ≡ v.claimed + n) × (words_held u.held ≡ n) × (u.full ≡ v.full))
      ⊎ ((u.claimed ≡ v.claimed) × (words_held u.held ≡ words_held v.held) × (u.full ≡ true))
      → Room v.shape bs (words_after words (Claim n)) (set views id u)
  claimed u n fits w k cases =
      let A : Type 0 = (u.claimed ≡ v.claimed + n) × (words_held u.held ≡ n) × (u.full ≡ v.full) in
      let B : Type 0 = (u.claimed ≡ v.claimed) × (words_held u.held ≡ words_held v.held)
      × (u.full ≡ true) in
      let next : next_in (words_after words (Claim n)) ≡ next_in words + n
      = next-claimed bs words views id v b n in
      let few : n ≤ 488 = few-words v n b.state.setting.position.most fits in
      let one = (b.state.in_hand id v b.at).one fits.number fits.ticket in
      let none : full_width v ≡ 0 = ap (λ (t : Bool). cond t v.width 0) fits.room in
      let empty : words_held v.held ≡ 0 = ap words_held fits.held in
      let known : u.width * words_known v.shape bs u ≡ v.width * words_known v.shape bs v
      = λ i. w i * sum_by (counted (root_at v.shape) (k i)) bs in
      let wide : full_width u ≡ cond u.full v.width 0 = ap (λ (z : ℕ). cond u.full z 0) w in
      let sums = total_set claimed_of views id v u b.at in
      let fulls = total_set full_width views id v u b.at in
      record {
        next = ⊎_elim
            (λ (c : A). omega (arith, next, room.next, c.0, sums, fulls, wide, none, ap (λ (t : Bool). cond t v.width 0) (c.2 ∙ fits.room)))
            (λ (c : B). omega (arith, next, few, room.next, c.0, sums, fulls, wide, none, one.0, ap (λ (t : Bool). cond t v.width 0) c.2))
            cases;
        claimed = each-set
            (λ y. y.claimed ≤ y.width * words_known v.shape bs y + words_held y.held) views id u
            (λ j y _ e. room.claimed j y e)
            (⊎_elim
            (λ (c : A). omega (arith, c.0, c.1, room.claimed id v b.at, known, empty))
            (λ (c : B). omega (arith, c.0, c.1, room.claimed id v b.at, known))
            cases);
      }

  room-claim : (n : ℕ) → FitsClaim v n
      → Room v.shape bs (words_after words (Claim n)) (views_after words views id v (Claim n))
  unfolding with_word
  room-claim n fits =
      let x : ℕ = next_in words in
      let u : SeatView = after v (Claim n) x in
      let A : Type 0 = (u.claimed ≡ v.claimed + n) × (words_held u.held ≡ n) × (u.full ≡ v.full) in
      let B : Type 0 = (u.claimed ≡ v.claimed) × (words_held u.held ≡ words_held v.held)
      × (u.full ≡ true) in
      let cases : A ⊎ B = ⊎_elim
      (λ (c : (x + n ≤ end_of v.shape) × (claimed_at v n x ≡ record v {
        held = Some (record { start = x; size = n; written = [] });
        claimed = v.claimed
            + n;
      })).
      inl (ap (λ (z : SeatView). z.claimed) c.1, ap (λ (z : SeatView). words_held z.held) c.1, ap (λ (z : SeatView). z.full) c.1))
      (λ (c : (end_of v.shape < x + n) × (claimed_at v n x ≡ record v { full = true })).
      inr (ap (λ (z : SeatView). z.claimed) c.1, ap (λ (z : SeatView). words_held z.held) c.1, ap (λ (z : SeatView). z.full) c.1))
      (claimed_cases v n x) in
      claimed u n fits (width-after v (Claim n) x)
      (claimed_same (λ z. z.known) v n x refl refl) cases

  -- A Publish makes one more link known: of the told block, whose size is that of the held one, and
  -- which is one of the blocks now
  module _ (l c : ℕ) (fits : FitsPublish v l c) (ls : List LinkedBlock) (y : ℕ) (some : y ≢ 0)
      (linked : In (told_below v (node_of_link l) y) ls)
      (more : (ks : List LinkedBlock) → sum_by (counted (root_at v.shape) ks) bs ≤ sum_by (counted (root_at v.shape) ks) ls) where
    abbrev x : ℕ
    x = node_of_link l

    at : x ≡ fits.node
    at = node-back v l c fits

    abbrev told : LinkedBlock
    told = told_below v x y

    known-now : known_after v x y ≡ told ∷ v.known
    known-now = told-known v x y (ap (is_known v) at ∙ fits.may.known)
        (ap (known_link v) at ∙ fits.may.vacant) some

    told-words : size told ≡ fits.block.size
    told-words = ap (λ (z : ℕ). size (told_below v z y)) at ∙ told-size v fits.node y fits.may.below
        ∙ sym fits.may.fits

    known-grows : sum_by (counted (root_at v.shape) v.known) bs + fits.block.size ≤ sum_by
        (counted (root_at v.shape) (known_after v x y)) ls
    known-grows =
        let new = known-new (root_at v.shape) v.known (known_after v x y) ls told
        (link-after v x y) linked (λ e. fits.may.below (sym at ∙ e))
        (ap (known_link v) at ∙ fits.may.vacant)
        (λ e. some (sym (ap (λ (ks : List LinkedBlock). link_of ks x) known-now ∙ ap (λ (t : Bool). cond t y (link_of v.known x)) (eq-eqb x x refl)) ∙ e)) in
        omega (arith, more v.known, new, told-words)

    room-told : (u : SeatView) (words' : List ℕ) → u.width ≡ v.width → u.claimed ≡ v.claimed
        → full_width u ≡ full_width v → u.held ≡ None → u.known ≡ known_after v x y
        → next_in words' ≡ next_in words → Room v.shape ls words' (set views id u)
    room-told u words' w c f h k n =
        let one = (b.state.in_hand id v b.at).one (let t = holder v.ticket refl in t.0)
        (let t = holder v.ticket refl in t.1) in
        let before : v.width * words_known v.shape bs v ≡ 1 * words_known v.shape bs v
        = ap (λ (z : ℕ). z * words_known v.shape bs v) one.0 in
        let now : u.width * words_known v.shape ls u ≡ 1 * sum_by
        (counted (root_at v.shape) (known_after v x y)) ls
        = λ i. (w ∙ one.0) i * sum_by (counted (root_at v.shape) (k i)) ls in
        record {
          next = omega (arith, n, room.next, total_set claimed_of views id v u b.at, c, total_set full_width views id v u b.at, f);
          claimed = each-set
              (λ z. z.claimed ≤ z.width * words_known v.shape ls z + words_held z.held) views id u
              (λ j z _ e. omega (arith, room.claimed j z e, mul-le-mul_left z.width (more z.known)))
              (omega (arith, c, ap words_held h, room.claimed id v b.at, ap words_held fits.held, before, now, known-grows));
        }
      where
        holder : (o : Option ℕ) → v.ticket ≡ o → (k : ℕ) × (v.ticket ≡ Some k)
        holder (Some k) e = (k, e)
        holder None e = absurd (no (sym ((b.state.in_hand id v b.at).idle e).1 ∙ fits.held))
          where
            no : None ≡ Some fits.block → ⊥
            no q = cc

  room-publish : (l c : ℕ) → FitsPublish v l c
      → Room v.shape (blocks_after bs words v (Publish l c)) (words_after words (Publish l c))
      (views_after words views id v (Publish l c))
  unfolding with_word published
  room-publish l c fits = by (slice_index words l == 0) refl
    where
      x : ℕ
      x = node_of_link l

      next : next_in (words_after words (Publish l c)) ≡ next_in words
      next = next-stays bs words views id v b (Publish l c) fits tt

      found : slice_index words l ≢ 0 → In (told_below v x (slice_index words l)) bs
      found ne =
          let n : is_known v x ≡ true = ap (is_known v) (node-back v l c fits) ∙ fits.may.known in
          let at : x + 1 ≡ l = omega (arith, fits.link) in
          told-real v.shape words bs v.known x (slice_index words l) b.state.linked.blocks
          (b.state.known id v b.at) n b.state.setting.position.most (ap (slice_index words) at)
          (some-more (slice_index words l) ne)
        where
          some-more : (n : ℕ) → n ≢ 0 → 0 < n
          some-more n ne = grind (arith, ne)

      by : (t : Bool) → (slice_index words l == 0) ≡ t
          → Room v.shape (cond t (told_below v x c ∷ bs) bs) (words_after words (Publish l c))
          (set views id (with_word l (cond t c (slice_index words l)) (record v { known = known_after v x (cond t c (slice_index words l)); held = None })))
      by true e = room-told l c fits (told_below v x c ∷ bs) c
          (λ z. absurd (omega (arith, z, fits.above))) (inl refl)
          (λ ks. omega (arith, sum_by-cons (counted (root_at v.shape) ks) (told_below v x c) bs))
          (with_word l c (record v { known = known_after v x c; held = None }))
          (words_after words (Publish l c)) refl refl refl refl refl next
      by false e =
          let ne : slice_index words l ≢ 0
          = λ z. clash (slice_index words l == 0) (eq-eqb (slice_index words l) 0 z) e in
          room-told l c fits bs (slice_index words l) ne (found ne) (λ ks. omega arith)
          (with_word l (slice_index words l) (record v {
            known = known_after v x (slice_index words l);
            held = None;
          })) (words_after words (Publish l c)) refl refl refl refl refl next

  held-more : (o : Option HeldBlock) (value : ℕ)
      → words_held (option_map (written_more value) o) ≡ words_held o
  held-more None value = refl
  held-more (Some h) value = refl

  pub room-step : (op : Op) → FitsStep v op
      → Room v.shape (blocks_after bs words v op) (words_after words op)
      (views_after words views id v op)
  unfolding with_word looked wrote added_at noted
  room-step Draw fits = room-draw fits
  room-step (Look i) fits
      = stays (Look i) fits tt refl refl refl (link-after v (node_of_link i) (slice_index words i))
  room-step (Claim n) fits = room-claim n fits
  room-step (Write i value) fits
      = stays (Write i value) fits tt refl refl (held-more v.held value) (λ z q. q)
  room-step (Publish l c) fits = room-publish l c fits
  room-step (Add i won) fits = stays (Add i won) fits tt refl refl refl (λ z q. q)
  room-step (Note k value) fits = stays (Note k value) fits tt refl refl refl (λ z q. q)
  room-step Done fits = stays Done fits tt refl refl refl (λ z q. q)
