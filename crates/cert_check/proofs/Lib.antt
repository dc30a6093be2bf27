-- How to read the proof of `cert_check::check`: the verdict on a certificate.
-- 1. What is claimed: src/checking.rt; win_cert's specs/Verdicts.antt and Reasons.antt.
-- 2. What is kept between two lines: specs/Keeping.antt, src/checkers.rt, proofs/Stepping, and
--    win_cert's specs/Contexts.antt and proofs/Stepping (one line more).
-- 3. A form of line each, in src/reading.rt, chains.rt and scopes.rt, by the tests in src/named.rt,
--    with ReasonLaws (which reasons may stand against each form, in their order, and which the
--    checker's tests tell), ChainReasons (`and`, `key`), OrReasons (`or`), BadStones (`put`),
--    Sharing and Passing (cells that all carriers have). `lift` is in src/lifting.rt, with LiftTests.
-- 4. src/checking.rt, with the law of accepted certificates for its clause `wins`.

-- Steps of this crate's own proofs.
mod BadStones
mod ChainReasons
mod LiftTests
mod Passing
mod Sharing
mod ReasonLaws
mod OrReasons
mod Stepping
