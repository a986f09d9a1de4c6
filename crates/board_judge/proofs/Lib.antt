mod JudgedOrders
