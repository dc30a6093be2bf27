-- A run that is done with one worker gave the one text.
use Rattle.std.proofs.Common.{Ok, ◌≡◌, ℕ, Bool, List, ◌++◌, Option, length, drop, ap, sym, ◌∙◌}
use Rattle.std.proofs.Common.{subst, append-nil}
use Rattle.std.proofs.Math.Seq.{drop-append_seam}
use Rattle.hex_io.specs.Told.{Told, Both}
use Rattle.hex_io.specs.Shelves.{Shelved}
use Rattle.hex_io.proofs.BothLaws.{Both-weaker}
use Rattle.htp_line.specs.Lines.{lines}
use Rattle.hex_engine.specs.declared.options.Options.{Options}
use Rattle.hex_plan.specs.Turns.{TurnData}
use Rattle.hex_engine.specs.EngineState.{opening}
use Rattle.hex_engine.specs.Supply.{Supply}
use Rattle.hex_engine.specs.Uses.{AreGood, CameOf}
use Rattle.htp_session.specs.Talk.{TalkState}
use Rattle.htp_session.specs.Endings.{Conversed, since}
use Rattle.hex_cli.specs.Determined.{IsDetermined}
use Rattle.htp_session.proofs.OneWorker.{through_told}

same_end_of : (xs ys zs : List Bool) → xs ++ ys ≡ xs ++ zs → ys ≡ zs
same_end_of xs ys zs e = sym (drop-append_seam xs ys) ∙ ap (drop (length xs)) e
    ∙ drop-append_seam xs zs

pub determined_at : (options : Options) (size limit : ℕ) (used : Supply) (a b : Option Shelved)
    (c d : Option (List TurnData)) (x y : Option Told)
    → Conversed (Ok tt) options size limit used (a, c) (b, d) x y → AreGood options used.turns
    → Both a b (λ s t. Both x y (λ o n. IsDetermined options size s t o n))
determined_at options size limit used a b c d x y k fine =
    Both-weaker a b _ _
    (λ s t f. Both-weaker x y _ _ (λ o n p. λ one tries grew all came good through.
    let mine : f.tries ≡ tries =
    same_end_of s.tries f.tries tries
    (ap (λ l. s.tries ++ l) (sym (append-nil f.tries) ∙ ap (λ l. f.tries ++ l) (sym k.vain))
    ∙ sym (ap (λ (z : Shelved). z.tries) f.tried) ∙ grew) in
    let same = through_told (opening options size) one s.files tries used all
    (subst (λ l. CameOf s.files l used.loads) mine f.came) came fine good
    (lines (since o n)) p.ends.through through in
    p.ends.given ∙ ap (λ (z : TalkState). o.given ++ z.text) same) k.outcome) k.fetched
