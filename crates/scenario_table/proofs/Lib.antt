mod TableValues
mod TableLines
mod TableViews
mod TableTails
mod RowLists
mod WorkedTable
