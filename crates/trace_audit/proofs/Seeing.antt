-- The seen words of a block in the sums, one by one.
use Rattle.std.proofs.Common.{◌≡◌, ℕ, ◌+◌, ◌<◌, List, length, set, length-set, get_or-set_same}
use Rattle.std.proofs.Common.{get_or-set_other, slice_index, sym, ap, ◌∙◌, subst, ⊎_elim, arith}
use Rattle.std.proofs.lemmas.Bool.{cases_eq}
use Rattle.tree_words.specs.Words.{node_at}
use Rattle.trace_audit.specs.Gains.{Sees, cell_of_node}

module _ (words : List ℕ) (b n : ℕ) (gift : ℕ → ℕ) (before now : List ℕ)
    (s : Sees words b n gift before now) where
  abbrev at : ℕ → ℕ
  at k = node_at b k + 3

  pub next_word : slice_index now (at n) ≡ slice_index before (at n)
  next_word = s.others (at n) (λ k l e. omega (arith, l, e))

  -- a node that is given nothing
  pub sees_past : gift (cell_of_node words b n) ≡ 0 → Sees words b (n + 1) gift before now
  sees_past h = record {
    long = s.long;
    seen = λ k l. ⊎_elim
        (λ (e : k ≡ n). subst (λ (m : ℕ). slice_index now (at m) ≡ slice_index before (at m) + gift (cell_of_node words b m)) (sym e)
        (omega (arith, next_word, h)))
        (λ (e : k ≡ n → ⊥). s.seen k (omega (arith, l, e)))
        (cases_eq k n);
    others = λ i d. s.others i (λ k l. d k (omega (arith, l)));
  }

  -- a node that is given so much
  pub sees_next : (v : ℕ) → v ≡ slice_index now (at n) + gift (cell_of_node words b n)
      → at n < length before → Sees words b (n + 1) gift before (set now (at n) v)
  sees_next v is l =
      let inside : at n < length now = omega (arith, l, s.long) in
      let same : slice_index (set now (at n) v) (at n) ≡ v
      = get_or-set_same now (at n) v 0 inside in
      record {
        long = length-set now (at n) v ∙ s.long;
        seen = λ k m. ⊎_elim
            (λ (e : k ≡ n). subst (λ (j : ℕ). slice_index (set now (at n) v) (at j) ≡ slice_index before (at j) + gift (cell_of_node words b j)) (sym e)
            (same ∙ is ∙ ap (λ (w : ℕ). w + gift (cell_of_node words b n)) next_word))
            (λ (e : k ≡ n → ⊥). get_or-set_other now (at n) (at k) v 0 (λ z. e (omega (arith, z))) ∙ s.seen k (omega (arith, m, e)))
            (cases_eq k n);
        others = λ i d. get_or-set_other now (at n) i v 0 (d n (omega arith))
            ∙ s.others i (λ k m. d k (omega (arith, m)));
      }
