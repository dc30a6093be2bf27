-- A step whose answer may be given keeps a view in order.
use Rattle.std.proofs.Common.{◌≡◌, ◌≢◌, ◌⊎◌, ℕ, zero, suc, ◌+◌, ◌-◌, ◌<◌, ◌≤◌, Bool, true, false}
use Rattle.std.proofs.Common.{cond, List, [], ◌∷◌, Option, Some, None, refl, sym, ap, ◌∙◌, subst}
use Rattle.std.proofs.Common.{⊎_elim, inl, inr, arith}
use Rattle.std.specs.Prelude.{◌==◌, ◌&&◌, nat_le, nat_lt, option_map}
use Rattle.tree_words.specs.Settings.{Setting, IsSetting}
use Rattle.tree_words.specs.Words.{root_at, area_at, end_of}
use Rattle.tree_words.specs.Blocks.{LinkedBlock, In, InOrder, has_node, is_node, size, covers}
use Rattle.tree_words.specs.Blocks.{cover, one_if}
use Rattle.tree_words.specs.declared.steps.Op.{Op}
use Rattle.tree_words.specs.declared.steps.Op.TheVariants.{Draw, Look, Claim, Write, Publish, Add}
use Rattle.tree_words.specs.declared.steps.Op.TheVariants.{Note, Done}
use Rattle.tree_words.proofs.Blocks.BlockLaws.{covers_of, cover-cons, has-at, clash}
use Rattle.arena_rule.specs.Views.{SeatView, HeldBlock, Flight}
use Rattle.arena_rule.specs.Lookups.{is_known, known_link, told_below, is_held}
use Rattle.arena_rule.specs.Fits.{FitsStep, FitsDraw, FitsClaim, FitsWrite, FitsPublish, FitsAdd}
use Rattle.arena_rule.specs.Fits.{FitsNote, IsNext}
use Rattle.arena_rule.specs.Afters.{after, drew, looked, claimed_at, wrote, published, added_at}
use Rattle.arena_rule.specs.Afters.{noted, with_word, known_after, node_of_link, flight_after}
use Rattle.arena_rule.specs.Afters.{written_more}
use Rattle.arena_rule.specs.Answers.{MayAnswer, AnswersLook, AnswersClaim, AnswersPublish}
use Rattle.arena_rule.specs.Answers.{AnswersLink, MayLieBelow}
use Rattle.arena_rule.specs.IsView.{AreTold, IsJoined, IsView}
use Rattle.arena_rule.proofs.Changes.{drew_cases, claimed_cases, drew_same, claimed_same}
use Rattle.arena_rule.proofs.Frames.{in-range}
use Rattle.arena_rule.proofs.Options.{none-some, some-eq, false-true}
use Rattle.arena_rule.proofs.Apart.{told-size}
use Rattle.arena_rule.proofs.KnownMore.{Grows, known_cases, known-more}
use Rattle.std.proofs.lemmas.Bool.{eqb-true, leb-true, and_parts, false_from_ne_true, eq-eqb}
use Rattle.std.proofs.lemmas.Bool.{or_cases}

-- no node begins at 0
zero-no-node : (n : ℕ) (ks : List LinkedBlock) → is_node (n + 2) ks 0 ≡ true → ⊥
zero-no-node n [] e = let q = eqb-true 0 (n + 2) e in omega (arith, q)
zero-no-node n (b ∷ ks) e = ⊎_elim
    (λ (h : has_node b 0 ≡ true). let q = has-at b 0 h in omega (arith, q.2))
    (λ (h : is_node (n + 2) ks 0 ≡ true). zero-no-node n ks h)
    (or_cases (has_node b 0) (is_node (n + 2) ks 0) e)

-- the block below x that begins at b may be known too
abbrev MayBeKnown : SeatView → ℕ → ℕ → Type 0
MayBeKnown v x b = (x < b) × (area_at v.shape ≤ b) × (b + size (told_below v x b) ≤ end_of v.shape)
    × ((i : ℕ) → covers i (told_below v x b) ≡ true → cover i v.known ≡ 0)

-- what is known after a link was found stands in order
record KnownStays (v : SeatView) (ks : List LinkedBlock) : Type 0 where
  told : AreTold v.shape ks
  order : IsJoined v ⊎ InOrder (root_at v.shape) ks

module _ (v : SeatView) (iv : IsView v) where
  known-stays : (x b : ℕ) → (is_known v x ≡ true → known_link v x ≡ 0 → b ≢ 0 → MayBeKnown v x b)
      → KnownStays v (known_after v x b)
  known-stays x b may = ⊎_elim
      (λ (g : Grows v x b). let m = may g.known g.vacant g.some in subst (KnownStays v) (sym g.is) (record {
        told = (record { parent = g.known; told = refl; inside = (m.1, m.2) }, iv.known);
        order = ⊎_elim (λ (j : IsJoined v). inl j)
            (λ (o : InOrder (root_at v.shape) v.known). inr (
              record {
                parent = g.known;
                vacant = g.vacant;
                above = m.0;
                clear = m.3;
                root = omega (arith, m.1);
              },
              o,
            ))
            iv.order;
      }))
      (λ (e : known_after v x b ≡ v.known). subst (KnownStays v) (sym e) (record { told = iv.known; order = iv.order }))
      (known_cases v x b)

  -- a word that no known block has, and that the new one has not
  still-apart : (x b i : ℕ)
      → (is_known v x ≡ true → known_link v x ≡ 0 → b ≢ 0 → covers i (told_below v x b) ≡ false)
      → cover i v.known ≡ 0 → cover i (known_after v x b) ≡ 0
  still-apart x b i out z = ⊎_elim
      (λ (g : Grows v x b). ap (cover i) g.is ∙ omega (arith, z, cover-cons i (told_below v x b) v.known, ap one_if (out g.known g.vacant g.some)))
      (λ (e : known_after v x b ≡ v.known). ap (cover i) e ∙ z)
      (known_cases v x b)

  -- what a link answers
  link-may : (x b : ℕ) → AnswersLink v x b → known_link v x ≡ 0 → b ≢ 0 → MayLieBelow v x b
  link-may x b a z ne
      = ⊎_elim (λ (e : b ≡ 0). absurd (ne e)) (λ (m : MayLieBelow v x b). m) (a.other z)

  link-known : (x b : ℕ) → MayLieBelow v x b → MayBeKnown v x b
  link-known x b m = (m.above, m.inside.0, m.inside.1, m.apart)

  -- a view with the same blocks, or more, that holds the same, or nothing
  stays : (u : SeatView) → u.shape ≡ v.shape → u.width ≡ v.width → u.ended ≡ v.ended
      → KnownStays v u.known
      → ((k : ℕ) → u.ticket ≡ Some k → k < v.shape.knobs.playouts)
      → ((h : HeldBlock) → u.held ≡ Some h → (area_at v.shape ≤ h.start) × (h.start + h.size ≤ end_of v.shape))
      → ((i : ℕ) → is_held u.held i ≡ true → cover i u.known ≡ 0)
      → ((f : Flight) → u.adds ≡ Some f → is_node (root_at v.shape) u.known f.leaf ≡ true) → IsView u
  stays u s w e k ticket held apart leaf = record {
    setting = subst IsSetting (sym s) iv.setting;
    width = omega (arith, w, iv.width);
    known = subst (λ (t : Setting). AreTold t u.known) (sym s) k.told;
    order = ⊎_elim (λ (j : IsJoined v). inl (record { ended = e ∙ (j.ended ∙ sym w); more = omega (arith, w, j.more) }))
        (λ (o : InOrder (root_at v.shape) u.known). inr (subst (λ (t : Setting). InOrder (root_at t) u.known) (sym s) o)) k.order;
    ticket = λ n q. subst (λ (t : Setting). n < t.knobs.playouts) (sym s) (ticket n q);
    held = λ h q. subst (λ (t : Setting). (area_at t ≤ h.start) × (h.start + h.size ≤ end_of t))
        (sym s) (held h q);
    apart = apart;
    leaf = λ f q. subst (λ (t : Setting). is_node (root_at t) u.known f.leaf ≡ true)
        (sym s) (leaf f q);
  }

  same : KnownStays v v.known
  same = record { told = iv.known; order = iv.order }

  stays-look : (i n : ℕ) → AnswersLook v i n → IsView (after v (Look i) n)
  unfolding with_word looked
  stays-look i n a =
      let x : ℕ = node_of_link i in
      let link : is_known v x ≡ true → AnswersLink v x n = λ k. a.link x k (at i k) in
      stays (after v (Look i) n) refl refl refl
      (known-stays x n (λ k z ne. link-known x n (link-may x n (link k) z ne)))
      iv.ticket iv.held
      (λ j h. still-apart x n j (λ k z ne. false_from_ne_true (covers j (told_below v x n))
      (λ c. clash (is_held v.held j) h ((link-may x n (link k) z ne).held j c))) (iv.apart j h))
      (λ f e. known-more v x n f.leaf (iv.leaf f e))
    where
      at : (i : ℕ) → is_known v (i - 1) ≡ true → i ≡ (i - 1) + 1
      at zero k = absurd (zero-no-node v.shape.knobs.playouts v.known k)
      at (suc i) k = omega arith

  stays-publish : (l c n : ℕ) → FitsPublish v l c → AnswersPublish v l n
      → IsView (after v (Publish l c) n)
  unfolding with_word published
  stays-publish l c n fits a =
      let x : ℕ = fits.node in
      let at : node_of_link l ≡ x = omega (arith, fits.link) in
      let link : AnswersLink v x n = a x fits.may.known fits.link in
      let may : (t : Bool) → (n == 0) ≡ t → MayBeKnown v x (cond t c n)
      = elim [ true ↦ λ e. own | false ↦ λ e. link-known x n (link-may x n link fits.may.vacant (λ z. clash (n == 0) (eq-eqb n 0 z) e)) ] in
      let b : ℕ = cond (n == 0) c n in
      stays (after v (Publish l c) n) refl refl refl
      (subst (λ (y : ℕ). KnownStays v (known_after v y b)) (sym at) (known-stays x b (λ k z ne. may (n == 0) refl)))
      iv.ticket (λ h e. absurd (none-some e)) (λ i h. absurd (false-true h))
      (λ f e. known-more v (node_of_link l) b f.leaf (iv.leaf f e))
    where
      own : MayBeKnown v fits.node c
      own =
          let x : ℕ = fits.node in
          let in_area = iv.held fits.block fits.held in
          let wide : size (told_below v x c) ≡ fits.block.size = told-size v x c fits.may.below
          ∙ sym fits.may.fits in (
            fits.above,
            omega (arith, in_area.0, fits.start),
            omega (arith, in_area.1, fits.start, wide),
            λ i h. let q = covers_of i (told_below v x c) h in
                iv.apart i (ap (λ (o : Option HeldBlock). is_held o i) fits.held
                ∙ in-range fits.block.start fits.block.size i (omega (arith, q.0, fits.start)) (omega (arith, q.1, fits.start, wide))),
          )

  stays-draw : (x : ℕ) → FitsDraw v → IsView (after v Draw x)
  unfolding with_word
  stays-draw x fits =
      let u : SeatView = after v Draw x in
      let wd : u.width ≡ v.width = drew_same (λ z. z.width) v x refl refl in
      let sh : u.shape ≡ v.shape = drew_same (λ z. z.shape) v x refl refl in
      let kn : u.known ≡ v.known = drew_same (λ z. z.known) v x refl refl in
      let he : u.held ≡ v.held = drew_same (λ z. z.held) v x refl refl in
      let ad : u.adds ≡ v.adds = drew_same (λ z. z.adds) v x refl refl in
      let setting : IsSetting u.shape = subst IsSetting (sym sh) iv.setting in
      let hand : (k : ℕ) → u.ticket ≡ Some k → k < v.shape.knobs.playouts = λ k e. ⊎_elim
      (λ (c : (x < v.shape.knobs.playouts) × (drew v x ≡ record v { ticket = Some x })).
      let is : x ≡ k = some-eq (sym (ap (λ (z : SeatView). z.ticket) c.1) ∙ e) in let l = c.0 in
      omega (arith, is, l))
      (λ (c : (v.shape.knobs.playouts ≤ x) × (drew v x ≡ record v { ended = 1 })). absurd (none-some (sym (ap (λ (z : SeatView). z.ticket) c.1 ∙ fits.ticket)
      ∙ e)))
      (drew_cases v x) in
      record {
        setting = setting;
        width = omega (arith, wd, iv.width);
        known = subst (λ (s : Setting). AreTold s u.known) (sym sh)
            (subst (AreTold v.shape) (sym kn) iv.known);
        order = ⊎_elim (λ (j : IsJoined v). absurd (let m = j.more in omega (arith, fits.width, m)))
            (λ (o : InOrder (root_at v.shape) v.known). inr (subst (λ (s : Setting). InOrder (root_at s) u.known) (sym sh)
            (subst (InOrder (root_at v.shape)) (sym kn) o))) iv.order;
        ticket = λ k e. subst (λ (s : Setting). k < s.knobs.playouts) (sym sh) (hand k e);
        held = λ h e. absurd (none-some (sym (he ∙ fits.held) ∙ e));
        apart = λ i h. absurd
            (false-true (sym (ap (λ (o : Option HeldBlock). is_held o i) (he ∙ fits.held)) ∙ h));
        leaf = λ f e. (λ i. is_node (root_at (sh i)) (kn i) f.leaf) ∙ iv.leaf f (sym ad ∙ e);
      }

  stays-claim : (s x : ℕ) → FitsClaim v s → AnswersClaim v x → IsView (after v (Claim s) x)
  unfolding with_word
  stays-claim s x fits a =
      let u : SeatView = after v (Claim s) x in
      let sh : u.shape ≡ v.shape = claimed_same (λ z. z.shape) v s x refl refl in
      let kn : u.known ≡ v.known = claimed_same (λ z. z.known) v s x refl refl in
      let ti : u.ticket ≡ v.ticket = claimed_same (λ z. z.ticket) v s x refl refl in
      let ad : u.adds ≡ v.adds = claimed_same (λ z. z.adds) v s x refl refl in
      let block : HeldBlock = record { start = x; size = s; written = [] } in
      let cases : ((x + s ≤ end_of v.shape) × (u.held ≡ Some block)) ⊎ (u.held ≡ None) = ⊎_elim
      (λ (c : (x + s ≤ end_of v.shape) × (claimed_at v s x ≡ record v {
        held = Some (record { start = x; size = s; written = [] });
        claimed = v.claimed
            + s;
      })).
      inl (c.0, ap (λ (z : SeatView). z.held) c.1))
      (λ (c : (end_of v.shape < x + s) × (claimed_at v s x ≡ record v { full = true })). inr (ap (λ (z : SeatView). z.held) c.1 ∙ fits.held))
      (claimed_cases v s x) in
      stays u sh (claimed_same (λ z. z.width) v s x refl refl)
      (claimed_same (λ z. z.ended) v s x refl refl)
      (subst (KnownStays v) (sym kn) same)
      (λ k e. iv.ticket k (sym ti ∙ e))
      (λ h e. ⊎_elim
      (λ (c : (x + s ≤ end_of v.shape) × (u.held ≡ Some block)).
      let is : block ≡ h = some-eq (sym c.1 ∙ e) in
      subst (λ (z : HeldBlock). (area_at v.shape ≤ z.start) × (z.start + z.size ≤ end_of v.shape)) is (a.least, c.0))
      (λ (c : u.held ≡ None). absurd (none-some (sym c ∙ e))) cases)
      (λ i h. ⊎_elim
      (λ (c : (x + s ≤ end_of v.shape) × (u.held ≡ Some block)).
      let in_block : (nat_le x i && nat_lt i (x + s)) ≡ true
      = sym (ap (λ (o : Option HeldBlock). is_held o i) c.1) ∙ h in
      ap (cover i) kn
      ∙ behind i (leb-true x i (and_parts (nat_le x i) (nat_lt i (x + s)) in_block).0) v.known a.behind)
      (λ (c : u.held ≡ None). absurd (false-true (sym (ap (λ (o : Option HeldBlock). is_held o i) c) ∙ h))) cases)
      (λ f e. ap (λ (ks : List LinkedBlock). is_node (root_at v.shape) ks f.leaf) kn ∙ iv.leaf f (sym ad ∙ e))
    where
      behind : (i : ℕ) → x ≤ i → (ks : List LinkedBlock)
          → ((b : LinkedBlock) → In b ks → b.start + size b ≤ x) → cover i ks ≡ 0
      behind i l [] h = refl
      behind i l (b ∷ ks) h =
          omega (
            arith,
            cover-cons i b ks,
            ap one_if (false_from_ne_true (covers i b) (λ t. let c = covers_of i b t in let e = h b (inl refl) in omega (arith, c.1, e, l))),
            behind i l ks (λ c n. h c (inr n)),
          )

  stays-write : (i n x : ℕ) → FitsWrite v i → IsView (after v (Write i n) x)
  unfolding with_word wrote
  stays-write i n x fits =
      stays (after v (Write i n) x) refl refl refl same iv.ticket
      (λ h e. let is : written_more n fits.block ≡ h = some-eq (sym (ap (option_map (written_more n)) fits.held) ∙ e) in
      subst (λ (z : HeldBlock). (area_at v.shape ≤ z.start) × (z.start + z.size ≤ end_of v.shape)) is (iv.held fits.block fits.held))
      (λ j h. iv.apart j (held-same v.held j ∙ h))
      iv.leaf
    where
      held-same : (o : Option HeldBlock) (j : ℕ)
          → is_held o j ≡ is_held (option_map (written_more n) o) j
      held-same None j = refl
      held-same (Some h) j = refl

  stays-add : (i : ℕ) (won : Bool) (x : ℕ) → FitsAdd v (record { word = i; won = won })
      → IsView (after v (Add i won) x)
  unfolding with_word added_at
  stays-add i won x fits =
      stays (after v (Add i won) x) refl refl refl same iv.ticket iv.held iv.apart
      (λ f e. subst (λ (z : Flight). is_known v z.leaf ≡ true) (some-eq e) (flies v.adds refl fits.next))
    where
      flies : (o : Option Flight) → v.adds ≡ o
          → IsNext v fits.number o (record { word = i; won = won })
          → is_known v (flight_after i o).leaf ≡ true
      flies None e next = let at : i - 2 ≡ next.0 = omega (arith, next.1) in ap (is_known v) at
          ∙ next.2.known
      flies (Some f) e next = iv.leaf f e

  stays-note : (k n x : ℕ) → FitsNote v k n → IsView (after v (Note k n) x)
  unfolding with_word noted
  stays-note k n x fits = stays (after v (Note k n) x) refl refl refl same
      (λ j e. absurd (none-some e)) iv.held iv.apart (λ f e. absurd (none-some e))

  stays-done : (x : ℕ) → IsView (after v Done x)
  unfolding with_word
  stays-done x = stays (after v Done x) refl refl refl same iv.ticket iv.held iv.apart iv.leaf

  pub view-stays : (op : Op) (x : ℕ) → FitsStep v op → MayAnswer v op x → IsView (after v op x)
  view-stays Draw x fits a = stays-draw x fits
  view-stays (Look i) x fits a = stays-look i x a.step
  view-stays (Claim s) x fits a = stays-claim s x fits a.step
  view-stays (Write i n) x fits a = stays-write i n x fits
  view-stays (Publish l c) x fits a = stays-publish l c x fits a.step
  view-stays (Add i won) x fits a = stays-add i won x fits
  view-stays (Note k n) x fits a = stays-note k n x fits
  view-stays Done x fits a = stays-done x
