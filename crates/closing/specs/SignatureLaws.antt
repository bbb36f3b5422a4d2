-- The signature lines of one u, which a page has one after the other.
use Rattle.std.specs.Prelude.{List, [], ◌++◌, ℕ, zero, suc, ◌+◌}
use Rattle.run.specs.declared.Run.{Run}
use Rattle.closing.specs.Closing.{signature_line}

-- the slots 1 to k of one u
unfoldable pub row_lines : Run → ℕ → ℕ → List ℕ
row_lines r u zero = []
row_lines r u (suc k) = row_lines r u k ++ signature_line r u (k + 1)
