-- What comes of one fetch.
use Rattle.std.proofs.Common.{◌≡◌, Some, None, Ok, refl, subst, ap}
use Rattle.std.specs.Prelude.{Err}
use Rattle.hex_io.specs.Shelves.{Failed, Missing, Long, Contents, says}
use Rattle.hex_io.specs.declared.shelves.ShelfError.TheVariants.{Fault, TooLong}
use Rattle.hex_engine.specs.declared.loadsgf.Loaded.TheVariants.{Unread, Refused}
use Rattle.hex_engine.specs.Uses.{IsReadAs}
use Rattle.hex_io.proofs.ResultLaws.{on_err}
use Rattle.hex_engine.proofs.UsedUp.{fetched_one, fetched_in_vain, if_ok}
use Rattle.hex_engine.proofs.loadsgf.load_game.Goals as goal

pub returns-in-Ok-Some-clause-came : goal.returns-in-Ok-Some-clause-came
returns-in-Ok-Some-clause-came g c =
    let e : c.fetch.result ≡ Ok (Some c.in-Ok-Some.bytes) = cc in
    if_ok c.read_file.result _ _
    (λ file h. fetched_one _ _ _ _ (Contents c.in-Ok-Some.bytes.items) file c.fetch.ensures.told
    (ap (says (λ f. f.items)) e) (subst (λ l. IsReadAs l file) c.deref.ensures.value h)) c.read_file.ensures

pub returns-in-Ok-Some-clause-vain : goal.returns-in-Ok-Some-clause-vain
returns-in-Ok-Some-clause-vain g c =
    let e : c.fetch.result ≡ Ok (Some c.in-Ok-Some.bytes) = cc in
    on_err c.read_file.result _
    (fetched_in_vain _ _ _ _ (Contents c.in-Ok-Some.bytes.items) c.fetch.ensures.told (ap (says (λ f. f.items)) e))

pub returns-in-Err-Fault-clause-came : goal.returns-in-Err-Fault-clause-came
returns-in-Err-Fault-clause-came g c =
    let e : c.fetch.result ≡ Err Fault = cc in
    fetched_one _ _ _ _ Failed Unread c.fetch.ensures.told (ap (says (λ f. f.items)) e) refl

pub returns-in-Ok-None-clause-came : goal.returns-in-Ok-None-clause-came
returns-in-Ok-None-clause-came g c =
    let e : c.fetch.result ≡ Ok None = cc in
    fetched_one _ _ _ _ Missing Refused c.fetch.ensures.told (ap (says (λ f. f.items)) e) refl

pub returns-in-Err-TooLong-clause-came : goal.returns-in-Err-TooLong-clause-came
returns-in-Err-TooLong-clause-came g c =
    let e : c.fetch.result ≡ Err TooLong = cc in
    fetched_one _ _ _ _ Long Refused c.fetch.ensures.told (ap (says (λ f. f.items)) e) refl
