-- Two lists of blocks that the words link: grown by one, grown by the other.
use Rattle.std.proofs.Common.{◌≡◌, ℕ, ◌+◌, ◌*◌, ◌<◌, ◌≤◌, Bool, true, false, cond, List, [], ◌∷◌}
use Rattle.std.proofs.Common.{refl, sym, ap, ◌∙◌, subst, ⊎_elim, inl, inr, arith}
use Rattle.std.specs.Prelude.{◌==◌}
use Rattle.std.proofs.lemmas.Bool.{cases_Bool, cases_eq, eq-eqb}
use Rattle.hex_board.specs.Positions.{is_empty_at}
use Rattle.tree_words.specs.Settings.{Setting, IsSetting}
use Rattle.tree_words.specs.Words.{root_at}
use Rattle.tree_words.specs.Blocks.{LinkedBlock, size, In, InOrder, link_of}
use Rattle.tree_words.specs.Paths.{NodeState}
use Rattle.tree_words.specs.Complete.{Linked}
use Rattle.tree_words.specs.Growth.{Grown, other_words}
use Rattle.tree_words.specs.Told.{AreAmong}
use Rattle.tree_words.proofs.Blocks.OneTree.{one-blocks}
use Rattle.tree_words.proofs.Blocks.Turned.{other-root, other-more}
use Rattle.trace_audit.proofs.OneList.{node_same, state_same}

-- the words that a block has among the others
record Weight (s : Setting) (b : LinkedBlock) (n : ℕ) : Type 0 where
  more : (bs : List LinkedBlock) → other_words s (b ∷ bs) ≡ n + other_words s bs

weight : (s : Setting) (b : LinkedBlock) → (n : ℕ) × Weight s b n
weight s b = ⊎_elim
    (λ (e : b.parent ≡ root_at s). (0, record { more = λ bs. omega (arith, other-root s b bs e) }))
    (λ (e : b.parent ≡ root_at s → ⊥). (size b, record { more = λ bs. other-more s b bs e }))
    (cases_eq b.parent (root_at s))

-- the list without one of its blocks
record Without (s : Setting) (b : LinkedBlock) (cs : List LinkedBlock) : Type 0 where
  others : List LinkedBlock
  words : other_words s cs ≡ other_words s (b ∷ others)
  kept : (d : LinkedBlock) → In d cs → (d ≡ b → ⊥) → In d others

without : (s : Setting) (b : LinkedBlock) (cs : List LinkedBlock) → In b cs → Without s b cs
without s b [] i = absurd i
without s b (c ∷ cs) i = ⊎_elim
    (λ (e : b ≡ c). record {
      others = cs;
      words = ap (λ (d : LinkedBlock). other_words s (d ∷ cs)) (sym e);
      kept = λ d j n. ⊎_elim (λ (f : d ≡ c). absurd (n (f ∙ sym e))) (λ (k : In d cs). k) j;
    })
    (λ (j : In b cs).
    let rest : Without s b cs = without s b cs j in
    let wb = weight s b in
    let wc = weight s c in
    record {
      others = c ∷ rest.others;
      words = omega (arith, wc.1.more cs, rest.words, wb.1.more rest.others, wb.1.more (c ∷ rest.others), wc.1.more rest.others);
      kept = λ d k n. ⊎_elim (λ (f : d ≡ c). inl f) (λ (l : In d cs). inr (rest.kept d l n)) k;
    })
    i

-- the parent of a block has a link
has_link : (r : ℕ) (bs : List LinkedBlock) (d : LinkedBlock) → InOrder r bs → In d bs
    → 0 < link_of bs d.parent
has_link r [] d g i = absurd i
has_link r (c ∷ bs) d g i = ⊎_elim
    (λ (t : (c.parent == d.parent) ≡ true).
    let above = g.0.above in
    omega (arith, above, ap (λ (u : Bool). cond u c.start (link_of bs d.parent)) t))
    (λ (t : (c.parent == d.parent) ≡ false).
    ⊎_elim
    (λ (e : d ≡ c). absurd (apart t (eq-eqb c.parent d.parent (ap (λ (z : LinkedBlock). z.parent) (sym e)))))
    (λ (j : In d bs). omega (arith, has_link r bs d g.1 j, ap (λ (u : Bool). cond u c.start (link_of bs d.parent)) t))
    i)
    (cases_Bool (c.parent == d.parent))
  where
    kind : Bool → Type 0
    kind true = Unit {0}
    kind false = ⊥

    apart : {a : Bool} → a ≡ false → a ≡ true → ⊥
    apart f t = subst kind (sym t ∙ f) tt

-- blocks in order are no more than those that they are among
words_least : (s : Setting) (r : ℕ) (bs cs : List LinkedBlock) → InOrder r bs → AreAmong bs cs
    → other_words s bs ≤ other_words s cs
words_least s r [] cs g a = omega arith
words_least s r (b ∷ bs) cs g a =
    let w : Without s b cs = without s b cs (a b (inl refl)) in
    let rest : other_words s bs ≤ other_words s w.others
    = words_least s r bs w.others g.1 (λ d i. w.kept d (a d (inr i)) (λ (e : d ≡ b).
    let vacant = g.0.vacant in
    omega (arith, vacant, ap (λ (z : LinkedBlock). link_of bs z.parent) e, has_link r bs d g.1 i))) in
    let one = weight s b in
    omega (arith, rest, w.words, one.1.more bs, one.1.more w.others)

-- as much grown
room_more : (w n m a : ℕ) → n ≤ m → w * n + a ≤ w * m + a
room_more w n m a l = grind (arith, l)

module _ (s : Setting) (words : List ℕ) (bs cs : List LinkedBlock) (h : IsSetting s)
    (p : Linked s words bs) (q : Linked s words cs) where
  abbrev r : ℕ
  r = root_at s

  pub grown_same : Grown s bs words → Grown s cs words
  grown_same g = record {
    first = λ b x y i m n z. g.first b x y (one-blocks s words cs bs h.position.most q p b i) m n z;
    leaves = λ l x c n e. g.leaves l x c (node_same s words bs cs h p q x ∙ n)
        (ap (λ (z : NodeState). is_empty_at z.board c) (state_same s words bs cs h p q x) ∙ e);
    room = let most = g.room in
        let few : other_words s bs ≤ other_words s cs
        = words_least s r bs cs p.order (one-blocks s words bs cs h.position.most p q) in
        omega (arith, most, room_more s.knobs.workers (other_words s bs) (other_words s cs) 0 few);
  }
