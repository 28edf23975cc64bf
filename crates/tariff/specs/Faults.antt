-- The numbers of refusals, and what a call answers.
use Rattle.std.specs.Prelude.{ℕ, cond, ◌==◌, List, [], ◌++◌, decimal, Some, None, Option, Ok, Err, Result, codes}
use Rattle.tariff.specs.declared.fault.Row.{Row}
use Rattle.tariff.specs.declared.fault.Row.TheVariants.{Field, NotOpen, UsedBefore, WrongKind, NoOffer, OtherMonth, WrongDay, WrongState, LargeCarryover, PastLimit, NoOfferPlace, NoRegisterPlace, BadHeader, BadRecord, NoSupply}
use Rattle.tariff.specs.declared.fault.Layer.{Layer}
use Rattle.tariff.specs.declared.fault.Layer.TheVariants.{Book, Card, Register, Batch}
use Rattle.tariff.specs.declared.fault.Fault.{Fault}

-- the number of each reason; of two that fit, the lower number is given
abbrev pub row_number : Row → ℕ
row_number Field = 1
row_number NotOpen = 2
row_number UsedBefore = 3
row_number WrongKind = 4
row_number NoOffer = 5
row_number OtherMonth = 6
row_number WrongDay = 7
row_number WrongState = 8
row_number LargeCarryover = 9
row_number PastLimit = 10
row_number NoOfferPlace = 11
row_number NoRegisterPlace = 12
row_number BadHeader = 13
row_number BadRecord = 14
row_number NoSupply = 15

-- the number of each layer
abbrev pub layer_number : Layer → ℕ
layer_number Book = 1
layer_number Card = 2
layer_number Register = 3
layer_number Batch = 4

-- the reason, as a clerk would put it
abbrev pub reason_text : Row → List ℕ
reason_text Field = codes "a field, a tolerance or a starting month lies outside its values"
reason_text NotOpen = codes "the account is not open, or is folded into another"
reason_text UsedBefore = codes "the account number was used before"
reason_text WrongKind = codes "the accounts are of a kind that this call does not take"
reason_text NoOffer = codes "no open offer to this account stands at the place"
reason_text OtherMonth = codes "a card or a series is of another month, or the last month would be closed"
reason_text WrongDay = codes "it is not the day for this: a day is out of turn, posted already or missing"
reason_text WrongState = codes "the page is settled already, or is not settled yet"
reason_text LargeCarryover = codes "the carryover is too large to be cleared"
reason_text PastLimit = codes "a quantity or a price passes its limit"
reason_text NoOfferPlace = codes "all places for offers are taken until the next closing"
reason_text NoRegisterPlace = codes "the register has fewer places than lines to write"
reason_text BadHeader = codes "the batch's header is short or wrong"
reason_text BadRecord = codes "a record's letter is unknown, or the record is cut short"
reason_text NoSupply = codes "both supply amounts are zero"

abbrev pub layer_text : Layer → List ℕ
layer_text Book = codes "book"
layer_text Card = codes "card"
layer_text Register = codes "register"
layer_text Batch = codes "batch"

-- the layers as refusals name them, and the account of a refusal that concerns none
abbrev pub book_layer : ℕ
book_layer = layer_number Book

abbrev pub card_layer : ℕ
card_layer = layer_number Card

abbrev pub no_account : Option ℕ
no_account = None

-- the number of the account that a refusal concerns, if it concerns one
abbrev pub account_number : Option ℕ → ℕ
account_number None = 255
account_number (Some a) = a

-- a refusal by the book, and one in making a series or a card, which concerns no account
abbrev pub by_book : Row → Option ℕ → Fault
by_book r a = record { row = r; layer = Book; account = a }

abbrev pub by_card : Row → Fault
by_card r = record { row = r; layer = Card; account = None }

-- a refusal as it is printed: its number, the layer, the account if there is one, and the reason; 255 stands for no account here too
abbrev pub account_text : Option ℕ → List ℕ
account_text None = []
account_text (Some a) = cond (a == 255) [] (codes ", account " ++ decimal a)

abbrev pub fault_text : Fault → List ℕ
fault_text f = codes "refusal " ++ (decimal (row_number f.row) ++ (codes " (" ++ (layer_text f.layer ++ (account_text f.account ++ (codes "): " ++ reason_text f.row)))))

-- what a call answers: it is performed and gives a value, or it is refused with a row, a layer and an account
pub data Answer (V : Type 0) : Type 0 where
  done : V → Answer V
  refused : ℕ → ℕ → Option ℕ → Answer V

-- a result by its numbers, and by what `view` tells of a value
abbrev pub answer : {X V : Type 0} → (X → V) → Result X Fault → Answer V
answer view (Ok x) = done (view x)
answer view (Err f) = refused (row_number f.row) (layer_number f.layer) f.account
