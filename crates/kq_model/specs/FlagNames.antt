-- The flags by name, in the order in which they are spelled.
use Rattle.std.specs.Prelude.{ℕ, List, [], ◌∷◌, codes}
use Rattle.kq_model.specs.Bits.{add, delete, enable, disable, oneshot, clear, dispatch, receipt, eof, error}

abbrev pub flag_table : List (List ℕ × ℕ)
flag_table =
    (codes "ADD", add) ∷ (codes "DELETE", delete) ∷ (codes "ENABLE", enable) ∷ (codes "DISABLE", disable)
    ∷ (codes "ONESHOT", oneshot) ∷ (codes "CLEAR", clear) ∷ (codes "DISPATCH", dispatch)
    ∷ (codes "RECEIPT", receipt) ∷ (codes "EOF", eof) ∷ (codes "ERROR", error) ∷ []
