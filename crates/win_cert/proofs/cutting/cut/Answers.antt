-- The certificate of the lines is accepted.
use Rattle.std.proofs.Common.{◌≡◌, ℕ, get_or, sym, ◌∙◌, ap, subst, refl}
use Rattle.std.specs.List.{slice_get}
use Rattle.std.proofs.lemmas.Option.{get_or_from_slice_get}
use Rattle.conn_store.specs.Stores.{StoreData}
use Rattle.win_cert.specs.Cutting.{NameEarlier}
use Rattle.win_cert.specs.declared.certs.Cert.{Cert}
use Rattle.win_cert.specs.declared.certs.TheConstants.{FIRST_VERSION}
use Rattle.win_cert.proofs.CutCertificates.{certified, cut_of, has_lines}
use Rattle.win_cert.proofs.CutDerivations.{name_earlier}
use Rattle.win_cert.proofs.cutting.cut.Goals as goal

pub marked-requires-clause-earlier : goal.marked-requires-clause-earlier
marked-requires-clause-earlier c = subst NameEarlier (sym c.entries.ensures.value)
    (name_earlier c.store-store.result.now c.entries.ensures.sound)

pub returns : goal.returns
returns c =
    let r = c.args.report.now in
    let n : ℕ = c.args.entry in
    let d = c.store-store.result.now in
    let same : d ≡ r = c.store-store.ensures.value in
    let claim = (get_or c.entries-2.result.now n c.index-entries-entry.result).kind in
    let cert : Cert = record {
      version = FIRST_VERSION;
      board = c.board.result.now;
      player = c.colour.result;
      lines = c.of.result;
      claim = claim;
      entry = c.index.result.now;
    } in
    let cut = cut_of d r n c.deref.result.now c.in_ok-lines.numbers.items cert same c.requires c.board.ensures
    c.colour.ensures c.of.ensures c.entries.ensures.value c.entries.ensures.few c.in_ok-marks.ensures
    c.deref.ensures.value c.in_ok-lines.ensures c.index.ensures in
    let all = c.entries-2.ensures.value ∙ ap (λ (d : StoreData). d.entries) same in
    record {
      certifies = λ a h. certified r n c.deref.result.now a cert cut h refl
          (ap (λ e. e.kind) (get_or_from_slice_get c.entries-2.result.now n a c.index-entries-entry.result
          (ap (λ es. slice_get es n) all ∙ h.0)));
      lines = has_lines r n c.deref.result.now cert cut;
    }
