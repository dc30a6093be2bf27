-- Words that stand in bytes. No clause of a public call cites this.
use Rattle.std.specs.Prelude.{ℕ, zero, suc, List, [], ◌∷◌, take, drop}
use Rattle.std.specs.Int.{w64, from_le_bytes}
use Rattle.trace_audit.specs.declared.texts.TheConstants.{WORD_BYTES}

-- n words: those that stand in the bytes, the low byte of each first, and 0 where these end
unfoldable pub words_from : ℕ → List ℕ → List ℕ
words_from zero bytes = []
words_from (suc n) bytes =
    from_le_bytes w64 (take WORD_BYTES bytes) ∷ words_from n (drop WORD_BYTES bytes)
