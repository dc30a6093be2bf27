use Rattle.std.proofs.Common.{All, ap, sym, ◌∙◌, subst}
use Rattle.std.proofs.lemmas.List.Elements.{All-push}
use Rattle.hex_board.specs.Elements.{PlayerBoard}
use Rattle.hex_board.specs.Positions.{is_empty_at}
use Rattle.win_cert.specs.Entries.{Context}
use Rattle.win_cert.specs.Reasons.{reason_against}
use Rattle.win_cert.specs.declared.statements.Statement.TheVariants.{Derivation}
use Rattle.cert_check.specs.Keeping.{IsGivenOnIf}
use Rattle.cert_check.proofs.BadStones.{none_in, small_set}
use Rattle.cert_check.proofs.ReasonLaws.{put_reasons, told_none}
use Rattle.cert_check.proofs.checkers.Checker.keep.Goals as goal

pub with_stones-self-inside-requires : goal.with_stones-self-inside-requires
with_stones-self-inside-requires c k t =
    let now = c.args.self.now in
    let clear = told_none _ _ _
    (sym (put_reasons now c.in-Put.cells) ∙ ap (λ l. reason_against now (Derivation l)) (sym c.in-Put.is) ∙ c.requires.0) in
    ap (λ n. is_empty_at n.base.board k) c.self.view_is
    ∙ none_in now.base.board c.in-Put.cells k
    (small_set c.in-Put.cells c.keeps.ensures.range k) clear t

pub invariant_of-self-in-Put : goal.invariant_of-self-in-Put
invariant_of-self-in-Put c =
    let base : PlayerBoard = record { board = c.self.inside.base; player = c.self.inside.player } in
    let now = c.args.self.now in
    let mine : IsGivenOnIf base c.args.given
    = subst (λ (n : Context). IsGivenOnIf n.base c.args.given)
    (sym c.self.view_is) c.requires.2 in
    let clear = told_none _ _ _
    (sym (put_reasons now c.in-Put.cells) ∙ ap (λ l. reason_against now (Derivation l)) (sym c.in-Put.is) ∙ c.requires.0) in
    record {
      is_board = c.with_stones-self-inside.ensures;
      fresh = λ k t. ap (λ n. is_empty_at n.base.board k) c.self.view_is
          ∙ none_in now.base.board c.in-Put.cells k
          (small_set c.in-Put.cells c.keeps.ensures.range k) clear t;
      are_elements = c.number_elements.ensures
          ∙ ap (λ (p : _). record { board = p; player = c.self.inside.player }) c.with_stones-self-inside.ensures;
      are_given = subst (All (IsGivenOnIf base)) (sym c.in-Ok.ensures.items)
          (All-push (IsGivenOnIf base) c.self.inside.given.items c.args.given c.self.invariant.are_given mine);
    }

pub invariant_of-self-in_default : goal.invariant_of-self-in_default
invariant_of-self-in_default c =
    let base : PlayerBoard = record { board = c.self.inside.base; player = c.self.inside.player } in
    let mine : IsGivenOnIf base c.args.given
    = subst (λ (n : Context). IsGivenOnIf n.base c.args.given)
    (sym c.self.view_is) c.requires.2 in
    record {
      is_board = c.self.invariant.is_board;
      are_elements = c.self.invariant.are_elements;
      fresh = c.self.invariant.fresh;
      are_given = subst (All (IsGivenOnIf base)) (sym c.in-Ok.ensures.items)
          (All-push (IsGivenOnIf base) c.self.inside.given.items c.args.given c.self.invariant.are_given mine);
    }
