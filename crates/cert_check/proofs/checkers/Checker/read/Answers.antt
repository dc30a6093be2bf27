use Rattle.std.proofs.Common.{◌≡◌, ◌∙◌, Ok, ap, sym, subst, refl}
use Rattle.win_cert.specs.Entries.{Context}
use Rattle.win_cert.specs.declared.lines.Line.{Line}
use Rattle.win_cert.specs.declared.lines.Line.TheVariants.{Or2, Or3, OrMany, Cases}
use Rattle.cert_check.specs.Keeping.{DerivesLine}
use Rattle.cert_check.specs.declared.given.Given.{Given}
use Rattle.cert_check.proofs.checkers.Checker.read.Goals as goal
use Rattle.cert_check.proofs.checkers.Checker.read.Goals.{in-Adj+in_ok-given-in-Adj}
use Rattle.cert_check.proofs.checkers.Checker.read.Goals.{in-And+in_ok-given-in-And}
use Rattle.cert_check.proofs.checkers.Checker.read.Goals.{in-Key+in_ok-given-in-Key}
use Rattle.cert_check.proofs.checkers.Checker.read.Goals.{in-Or2+in_ok-given-in-Or2}
use Rattle.cert_check.proofs.checkers.Checker.read.Goals.{in-Or3+in_ok-given-in-Or3}
use Rattle.cert_check.proofs.checkers.Checker.read.Goals.{in-OrMany+in_ok-given-in-OrMany}
use Rattle.cert_check.proofs.checkers.Checker.read.Goals.{in-Done+in_ok-given-in-Done}
use Rattle.cert_check.proofs.checkers.Checker.read.Goals.{in-Move+in_ok-given-in-Move}
use Rattle.cert_check.proofs.checkers.Checker.read.Goals.{in-Cases+in_ok-given-in-Cases}

-- the same line, and the same entry
same_line : (c : Context) (l m : Line) (g h : Given) → m ≡ l → h ≡ g → DerivesLine c l (Ok g)
    → DerivesLine c m (Ok h)
same_line c l m g h e f d
    = subst (λ k. DerivesLine c k (Ok h)) (sym e) (subst (λ k. DerivesLine c l (Ok k)) (sym f) d)

pub returns : goal.returns
returns c = elim c.match-line.branch [
  | in-Adj+in_ok-given-in-Adj w ↦ same_line c.args.self.now _ _ _ _ w.in-Adj.is w.given-is w.in_ok-given-in-Adj.ensures
  | in-And+in_ok-given-in-And w ↦ same_line c.args.self.now _ _ _ _ w.in-And.is w.given-is w.in_ok-given-in-And.ensures
  | in-Key+in_ok-given-in-Key w ↦ same_line c.args.self.now _ _ _ _ w.in-Key.is w.given-is w.in_ok-given-in-Key.ensures
  | in-Or2+in_ok-given-in-Or2 w ↦ same_line c.args.self.now _ _ _ _ w.in-Or2.is w.given-is
      (w.in_ok-given-in-Or2.ensures (Or2 w.in-Or2.i w.in-Or2.j) (refl, refl))
  | in-Or3+in_ok-given-in-Or3 w ↦ same_line c.args.self.now _ _ _ _ w.in-Or3.is w.given-is
      (w.in_ok-given-in-Or3.ensures (Or3 w.in-Or3.i w.in-Or3.j w.in-Or3.k) (refl, refl))
  | in-OrMany+in_ok-given-in-OrMany w ↦ same_line c.args.self.now _ _ _ _
      (w.in-OrMany.is ∙ ap OrMany (sym w.as_slice.ensures)) w.given-is w.in_ok-given-in-OrMany.ensures
  | in-Done+in_ok-given-in-Done w ↦ same_line c.args.self.now _ _ _ _ w.in-Done.is w.given-is w.in_ok-given-in-Done.ensures
  | in-Move+in_ok-given-in-Move w ↦ same_line c.args.self.now _ _ _ _ w.in-Move.is w.given-is w.in_ok-given-in-Move.ensures
  | in-Cases+in_ok-given-in-Cases w ↦ same_line c.args.self.now _ _ _ _
      (w.in-Cases.is ∙ ap Cases (sym w.as_slice-in-Cases.ensures)) w.given-is w.in_ok-given-in-Cases.ensures
]
