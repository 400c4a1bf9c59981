-- The numbers of the reasons why a report isn't sound, and the reasons in words.
use Rattle.std.specs.Prelude.{ℕ, List, codes}
use Rattle.trace_model.specs.declared.verdict.Why.{Why}
use Rattle.trace_model.specs.declared.verdict.Why.TheVariants.{NoSuchLine, OtherNumber, OtherMaster, BrokenJourney}
use Rattle.trace_model.specs.declared.verdict.Why.TheVariants.{WrongReading, WrongValue, TooBig, Bytes}

-- the number of a reason, 701 to 708
abbrev pub code_of : Why → ℕ
code_of NoSuchLine = 701
code_of OtherNumber = 702
code_of OtherMaster = 703
code_of BrokenJourney = 704
code_of WrongReading = 705
code_of WrongValue = 706
code_of TooBig = 707
code_of Bytes = 708

-- each reason in words, in one line
abbrev pub words_of : Why → List ℕ
words_of NoSuchLine =
    codes "a tag of the report isn't that of an event as the report needs it, or no event tells when the Delay_Req left"
words_of OtherNumber =
    codes "the Sync isn't the one of the Follow_Up, or the Delay_Req isn't the one of the report"
words_of OtherMaster =
    codes "a message isn't of the present master of the slave, or came before the slave was told this master"
words_of BrokenJourney =
    codes "the journey of the Sync or of the Delay_Req can't be followed back to where it was sent, or a stay on it was left twice"
words_of WrongReading =
    codes "a reading isn't that of the clock of its node, or falls while a message is in a clock"
words_of WrongValue =
    codes "the two results aren't those of the readings"
words_of TooBig =
    codes "the Sync or the Delay_Req was in clocks for longer than a correction can say"
words_of Bytes =
    codes "the octets of a message aren't those that a port or a clock writes"
