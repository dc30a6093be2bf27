-- A conversation after a read.
use Rattle.std.proofs.Common.{◌≡◌, ◌≤◌, ◌+◌, ℕ, None, List, [], ◌++◌, length, take, subst, append-nil}
use Rattle.std.proofs.Common.{arith, Result}
use Rattle.hex_io.specs.Told.{Both, TakesBytes}
use Rattle.hex_io.proofs.BothLaws.{Both-then}
use Rattle.hex_devices.specs.Devices.{DevicesState, CountsStop, shelf_and_archive}
use Rattle.hex_devices.specs.declared.errors.OutputError.{OutputError}
use Rattle.htp_session.specs.Sessions.{Conversation, IsBetweenLines, CameTo}
use Rattle.htp_session.specs.Calls.Session.{Finishes, outcome_of_output}
use Rattle.htp_session.specs.declared.session.Session.{Session}
use Rattle.htp_session.proofs.Conversations.{between_lines_taking}
use Rattle.htp_session.proofs.Pieces.{length-taken}

-- a conversation stands after a text of so many bytes, all that was taken, with nothing held
abbrev pub IsBetweenLinesAt : Conversation → DevicesState → Session → ℕ → Type 0
IsBetweenLinesAt c now session total = (seen : List ℕ) × (length seen ≡ total)
    × IsBetweenLines c now session.engine session.splitter [] seen seen

-- a read took nothing and changed nothing else, or it took these bytes
pub record Reads (old new : DevicesState) (buf : List ℕ) (count : ℕ) : Type 0 where
  pub same : shelf_and_archive new ≡ shelf_and_archive old
  pub took : Both old.link new.link (λ o t. TakesBytes o t count buf)
  pub counts : CountsStop old new None

pub reads_piece : {old new : DevicesState} (buf : List ℕ) (count : ℕ)
    → shelf_and_archive new ≡ shelf_and_archive old
    → Both old.link new.link (λ o t. TakesBytes o t count buf) → CountsStop old new None
    → Reads old new buf count
reads_piece buf count same took counts = record { same = same; took = took; counts = counts }

-- a piece more was taken after some text, with which there are so many bytes
pub record TookPiece (c : Conversation) (now : DevicesState) (session : Session)
    (piece : List ℕ) (total : ℕ) : Type 0 where
  pub seen : List ℕ
  pub many : length (seen ++ piece) ≡ total
  pub between_lines : IsBetweenLines c now session.engine session.splitter [] seen (seen ++ piece)

pub took_piece : {c : Conversation} {old new : DevicesState} {buf : List ℕ} {count : ℕ}
    (session : Session) (total : ℕ) → IsBetweenLinesAt c old session total → count ≤ length buf
    → Reads old new buf count → total + count ≤ c.limit
    → TookPiece c new session (take count buf) (total + count)
took_piece {buf} {count} session total at fits reads few =
    let many = length-taken at.0 buf total count at.1 fits in
    record {
      seen = at.0;
      many = many;
      between_lines = between_lines_taking buf count at.2 reads.same reads.took reads.counts
          (omega (arith, many, few));
    }

-- a read took nothing, and so the input had ended
pub came_by_finish : {c : Conversation} {old mid : DevicesState} {buf : List ℕ} {count : ℕ}
    (new : DevicesState) (session : Session) (total : ℕ) (result : Result (Unit {0}) OutputError)
    → IsBetweenLinesAt c old session total → Reads old mid buf count → count ≡ 0
    → Finishes mid new session result → CameTo c new (outcome_of_output result)
came_by_finish {c} {old} {mid} {buf} {count} new session total result at reads zero finishes =
    let between_lines : IsBetweenLines c mid session.engine session.splitter [] at.0 at.0 =
    subst (λ t. IsBetweenLines c mid session.engine session.splitter [] at.0 t) (append-nil at.0)
    (between_lines_taking buf 0 at.2 reads.same
    (subst (λ n. Both old.link mid.link (λ o t. TakesBytes o t n buf)) zero reads.took) reads.counts
    (rw (append-nil at.0) at.2.so_far.in_limit)) in
    finishes c at.0 between_lines
    (Both-then c.began.link old.link mid.link _ _ _ (λ x y z p t. t.at_end zero) at.2.so_far.told
    reads.took)
