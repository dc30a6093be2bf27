-- A tree fails at one point first, and a closed tree at none.
use Rattle.std.proofs.Common.{◌≡◌, ℕ, List, refl, sym}
use Rattle.tree_words.specs.Settings.{Setting, IsSetting}
use Rattle.tree_words.specs.Closing.{IsClosed}
use Rattle.trace_audit.specs.Verdicts.{FailsFirst}
use Rattle.trace_audit.specs.declared.types.Flaw.{Flaw}
use Rattle.trace_audit.specs.declared.types.Flaw.TheVariants.{BadForm, Block, Record, Count, End}
use Rattle.trace_audit.specs.declared.types.Flaw.TheVariants.{Growth}
use Rattle.trace_audit.proofs.OneList.{recorded_same, exact_same}
use Rattle.trace_audit.proofs.OneGrown.{grown_same}

module _ (s : Setting) (words : List ℕ) (h : IsSetting s) where
  -- no point of a closed tree fails
  pub closed_holds : (why : Flaw) → IsClosed s words → FailsFirst s words why → ⊥
  closed_holds BadForm c f = f
  closed_holds Block c f = f c.blocks c.linked
  closed_holds Record c f = f.2 (recorded_same s words c.blocks f.0 h c.linked f.1 c.recorded)
  closed_holds Count c f = f.3 (exact_same s words c.blocks f.0 h c.linked f.1 c.exact)
  closed_holds End c f = f.4 c.ends
  closed_holds Growth c f = f.5 (grown_same s words c.blocks f.0 h c.linked f.1 c.grown)

  -- what the first failure comes before
  before_block : (why : Flaw) → FailsFirst s words Block → FailsFirst s words why → Block ≡ why
  before_block BadForm f g = absurd g
  before_block Block f g = refl
  before_block Record f g = absurd (f g.0 g.1)
  before_block Count f g = absurd (f g.0 g.1)
  before_block End f g = absurd (f g.0 g.1)
  before_block Growth f g = absurd (f g.0 g.1)

  before_record : (why : Flaw) → FailsFirst s words Record → FailsFirst s words why → Record ≡ why
  before_record BadForm f g = absurd g
  before_record Block f g = absurd (g f.0 f.1)
  before_record Record f g = refl
  before_record Count f g = absurd (f.2 (recorded_same s words g.0 f.0 h g.1 f.1 g.2))
  before_record End f g = absurd (f.2 (recorded_same s words g.0 f.0 h g.1 f.1 g.2))
  before_record Growth f g = absurd (f.2 (recorded_same s words g.0 f.0 h g.1 f.1 g.2))

  before_count : (why : Flaw) → FailsFirst s words Count → FailsFirst s words why → Count ≡ why
  before_count BadForm f g = absurd g
  before_count Block f g = sym (before_block Count g f)
  before_count Record f g = sym (before_record Count g f)
  before_count Count f g = refl
  before_count End f g = absurd (f.3 (exact_same s words g.0 f.0 h g.1 f.1 g.3))
  before_count Growth f g = absurd (f.3 (exact_same s words g.0 f.0 h g.1 f.1 g.3))

  before_end : (why : Flaw) → FailsFirst s words End → FailsFirst s words why → End ≡ why
  before_end BadForm f g = absurd g
  before_end Block f g = sym (before_block End g f)
  before_end Record f g = sym (before_record End g f)
  before_end Count f g = sym (before_count End g f)
  before_end End f g = refl
  before_end Growth f g = absurd (f.4 g.4)

  -- a tree fails at one point first
  pub fails_one : (v w : Flaw) → FailsFirst s words v → FailsFirst s words w → v ≡ w
  fails_one BadForm w f g = absurd f
  fails_one Block w f g = before_block w f g
  fails_one Record w f g = before_record w f g
  fails_one Count w f g = before_count w f g
  fails_one End w f g = before_end w f g
  fails_one Growth BadForm f g = absurd g
  fails_one Growth Block f g = sym (before_block Growth g f)
  fails_one Growth Record f g = sym (before_record Growth g f)
  fails_one Growth Count f g = sym (before_count Growth g f)
  fails_one Growth End f g = sym (before_end Growth g f)
  fails_one Growth Growth f g = refl
