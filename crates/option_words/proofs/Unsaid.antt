-- What is said of a name that has no default.
use Rattle.std.proofs.Common.{◌≡◌, ◌∙◌, sym, ap, List, None}
use Rattle.option_words.specs.Grammar.{Form, Saying, defaults_of, value_of}
use Rattle.option_words.specs.Lines.{value_in}
use Rattle.option_words.specs.Values.{TextBytes}
use Rattle.option_words.proofs.Ends.{or_option, or_option_none, value_pushed}

pub said_without_default : (form : Form) (said : List Saying) (name : TextBytes)
    → value_of (defaults_of form.options) name ≡ None → value_of said name ≡ value_in form said name
said_without_default form said name none =
    sym (or_option_none (value_of said name)) ∙ ap (or_option (value_of said name)) (sym none)
    ∙ sym (value_pushed name said (defaults_of form.options))
