-- The values of the names say one match.
use Rattle.std.proofs.Common.{◌≡◌, ◌∙◌, ◌↔◌, ℕ, Bool, true, false, List, Option, Some, None, refl}
use Rattle.std.proofs.Common.{sym, ap, subst}
use Rattle.option_words.specs.Values.{IsNumberFrom, TextBytes, switch_word}
use Rattle.match_ref.specs.MatchWords.{AreMatchWords, IsSaidSide}
use Rattle.match_ref.specs.Openings.{AreOpenings}
use Rattle.match_ref.specs.declared.settings.Side.{Side}
use Rattle.match_ref.specs.declared.table.TheConstants.{OPENING, SIZE}
use Rattle.match_ref.specs.declared.words.MatchWords.{MatchWords}
use Rattle.match_ref.proofs.ListLaws.{same_openings}

pub same_number : (least most : ℕ) (value : Option TextBytes) (n m : ℕ)
    → IsNumberFrom least most value n → IsNumberFrom least most value m → n ≡ m
same_number least most None n m h g = absurd h
same_number least most (Some text) n m h g = sym h.2 ∙ g.2

same_switch : (a b : Bool) (value : Option TextBytes) → value ≡ Some (switch_word a)
    → value ≡ Some (switch_word b) → a ≡ b
same_switch true true value h g = refl
same_switch true false value h g = cc
same_switch false true value h g = cc
same_switch false false value h g = refl

same_side : (value : TextBytes → Option TextBytes) (is_b : Bool) (s t : Side)
    → IsSaidSide value is_b s → IsSaidSide value is_b t → s ≡ t
same_side value is_b s t h g =
    let playouts : s.playouts ≡ t.playouts = same_number _ _ _ _ _ h.playouts_is g.playouts_is in
    let words : s.words ≡ t.words = same_number _ _ _ _ _ h.words_is g.words_is in
    let expand : s.expand ≡ t.expand = same_number _ _ _ _ _ h.expand_is g.expand_is in
    let weight : s.weight ≡ t.weight = same_number _ _ _ _ _ h.weight_is g.weight_is in
    let solve : s.solve ≡ t.solve = same_number _ _ _ _ _ h.solve_is g.solve_is in
    let look : s.look ≡ t.look = same_number _ _ _ _ _ h.look_is g.look_is in
    λ k. record {
      playouts = playouts k;
      words = words k;
      expand = expand k;
      weight = weight k;
      solve = solve k;
      look = look k;
    }

same_match : (value : TextBytes → Option TextBytes) (v w : MatchWords) → AreMatchWords value v
    → AreMatchWords value w → v ≡ w
same_match value v w h g =
    let size : v.setup.size ≡ w.setup.size = same_number _ _ _ _ _ h.size g.size in
    let games : v.setup.games ≡ w.setup.games = same_number _ _ _ _ _ h.games g.games in
    let threads : v.setup.threads ≡ w.setup.threads = same_number _ _ _ _ _ h.threads g.threads in
    let seed : v.setup.seed ≡ w.setup.seed = same_number _ _ _ _ _ h.seed g.seed in
    let openings : v.setup.openings ≡ w.setup.openings
    = same_openings w.setup.size (value OPENING.0.now) v.setup.openings w.setup.openings
    (subst (λ n. AreOpenings n (value OPENING.0.now) v.setup.openings) size h.openings)
    g.openings in
    let a : v.setup.a ≡ w.setup.a = same_side value false v.setup.a w.setup.a h.a g.a in
    let b : v.setup.b ≡ w.setup.b = same_side value true v.setup.b w.setup.b h.b g.b in
    let records : v.records ≡ w.records = same_switch _ _ _ h.records g.records in
    λ k. record {
      setup = record {
        size = size k;
        games = games k;
        threads = threads k;
        seed = seed k;
        openings = openings k;
        a = a k;
        b = b k;
      };
      records = records k;
    }

-- if they list no openings for a board of the size that they say, they say no match
pub no_openings : (value : TextBytes → Option TextBytes) (n : ℕ) (w : MatchWords)
    → IsNumberFrom SIZE.2 SIZE.3 (value SIZE.0.now) n
    → ((cells : List ℕ) → AreOpenings n (value OPENING.0.now) cells → ⊥) → AreMatchWords value w → ⊥
no_openings value n w size none h =
    none w.setup.openings
    (subst (λ m. AreOpenings m (value OPENING.0.now) w.setup.openings)
    (same_number _ _ _ w.setup.size n h.size size) h.openings)

-- a match that they say is the one
pub one_match : (value : TextBytes → Option TextBytes) (v w : MatchWords) → AreMatchWords value v
    → (let said : Option MatchWords = Some v in said ≡ Some w) ↔ AreMatchWords value w
one_match value v w h = (
  λ is. let same : v ≡ w = cc in subst (AreMatchWords value) same h,
  λ g. ap (λ m. Some m) (same_match value v w h g),
)
