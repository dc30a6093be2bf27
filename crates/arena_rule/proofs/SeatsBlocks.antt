-- A split and a join keep Fresh, Apart, Linked, Held and Known.
use Rattle.std.proofs.Common.{◌≡◌, ℕ, List, Some, None, refl, sym, ◌∙◌, arith}
use Rattle.std.proofs.lemmas.Option.{none-some}
use Rattle.tree_words.specs.Words.{root_at}
use Rattle.tree_words.specs.Blocks.{LinkedBlock}
use Rattle.tree_words.specs.Told.{Knows}
use Rattle.tree_words.proofs.Blocks.Within.{knows-both}
use Rattle.arena_rule.specs.Views.{SeatView, HeldBlock, spent_view}
use Rattle.arena_rule.specs.Fits.{CanSplit}
use Rattle.arena_rule.specs.Afters.{kept_part, given_part, joined}
use Rattle.arena_rule.specs.Parts.{AreApart, AreWritten, HasWritten, Known, held_at}
use Rattle.arena_rule.specs.Rule.{views_split, views_joined}
use Rattle.arena_rule.proofs.Before.{Before, Other}
use Rattle.arena_rule.proofs.Totals.{each-split, each-join, total_split, total_join}

module _ (bs : List LinkedBlock) (words : List ℕ) (views : List SeatView) (id : ℕ) (v : SeatView)
    (b : Before bs words views id v) where
  -- a view that holds nothing
  none-held : (u : SeatView) → u.held ≡ None → (h : HeldBlock) → u.held ≡ Some h
      → HasWritten words h
  none-held u n h e = absurd (none-some h (sym n ∙ e))

  pub apart-split : (part : ℕ) → CanSplit v part
      → AreApart v.shape bs words (views_split views id v part)
  unfolding kept_part
  apart-split part can i
      = omega (arith, total_split (held_at i) views id v (kept_part v part) (given_part v part) b.at, b.state.apart i)

  pub held-split : (part : ℕ) → CanSplit v part → AreWritten words (views_split views id v part)
  unfolding kept_part
  held-split part can
      = each-split (λ (u : SeatView). (h : HeldBlock) → u.held ≡ Some h → HasWritten words h) views id
      (kept_part v part) (given_part v part)
      (λ j u ne e. b.state.held j u e) (b.state.held id v b.at) (none-held (given_part v part) refl)

  pub known-split : (part : ℕ) → CanSplit v part → Known v.shape bs (views_split views id v part)
  unfolding kept_part
  known-split part can = each-split (λ (u : SeatView). Knows (root_at v.shape) bs u.known) views id
      (kept_part v part) (given_part v part)
      (λ j u ne e. b.state.known j u e) (b.state.known id v b.at) (b.state.known id v b.at)

  pub apart-join : (other : ℕ) (w : SeatView) → Other views id v other w
      → AreApart v.shape bs words (views_joined views id v other w)
  unfolding joined
  apart-join other w o i
      = omega (arith, total_join (held_at i) views id other v w (joined v w) (spent_view v.shape) o.differ b.at o.at, b.state.apart i)

  pub held-join : (other : ℕ) (w : SeatView) → Other views id v other w
      → AreWritten words (views_joined views id v other w)
  unfolding joined
  held-join other w o
      = each-join (λ (u : SeatView). (h : HeldBlock) → u.held ≡ Some h → HasWritten words h) views id other (joined v w) (spent_view v.shape)
      b.state.held (none-held (joined v w) refl) (none-held (spent_view v.shape) refl)

  pub known-join : (other : ℕ) (w : SeatView) → Other views id v other w
      → Known v.shape bs (views_joined views id v other w)
  unfolding joined
  known-join other w o
      = each-join (λ (u : SeatView). Knows (root_at v.shape) bs u.known) views id other (joined v w)
      (spent_view v.shape)
      b.state.known
      (knows-both (root_at v.shape) bs v.known w.known (b.state.known id v b.at) (b.state.known other w o.at)) tt
