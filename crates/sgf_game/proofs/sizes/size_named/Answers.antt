use Rattle.std.proofs.Common.{◌≡◌, ℕ, ◌+◌, ◌-◌, ◌<◌, Bool, false, suc, refl, sym, ◌∙◌, arith}
use Rattle.std.specs.List.{find, range_with_len}
use Rattle.sgf_game.specs.Setup.{is_size, size_named}
use Rattle.sgf_game.proofs.sizes.size_named.Goals as goal

-- a number that fails the test is passed over
passed_over : (p : ℕ → Bool) (n m k : ℕ) → m ≡ suc k → p n ≡ false
    → find p (range_with_len n m) ≡ find p (range_with_len (n + 1) k)
passed_over p n m k e f = rw e (rw f refl)

pub loop-n-init : goal.loop-n-init
unfolding size_named
loop-n-init c = refl

pub loop-n-preserved : goal.loop-n-preserved
loop-n-preserved c =
    let n = c.loop-n.n in
    let below : n < 12 = omega arith in
    let fewer : 12 - n ≡ suc (12 - (n + 1)) = omega arith in
    let fails : is_size c.args.text.now n ≡ false = grind arith in
    sym (passed_over (is_size c.args.text.now) n (12 - n) (12 - (n + 1)) fewer fails)
    ∙ c.loop-n.invariant
